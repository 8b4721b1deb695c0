use Rattle.std.proofs.Common.{rules, FitsSigned, to_z, of_z, ◌≤ℤ◌, ◌<ℤ◌, ◌+ℤ◌, ◌-ℤ◌, pos, arith}
use Rattle.std.specs.Int.{w64}
use Rattle.std.proofs.lemmas.Int.{ints, to_z-of_z}
use Rattle.tz_types.specs.declared.limit.TheConstants.{LONGEST_OFFSET}
use Rattle.tz_local.proofs.InfoLemmas.{IsWalk, IsNext, first_begun, first_seen, next_seen, ends_inside, walks_on, walked, never_begun}
use Rattle.tz_local.proofs.info.info_among.Given as given
use Rattle.tz_local.proofs.info.info_among.Goals as goal

pub from_first-findings-requires-clause-begun : goal.from_first-findings-requires-clause-begun
from_first-findings-requires-clause-begun g c =
    let l_fits : FitsSigned w64 c.args.l = c.ranges.l in
    let early_fits : FitsSigned w64 (c.args.l -ℤ pos LONGEST_OFFSET) = search rules in
    let found = simp to_z-of_z at c.range_at-first.ensures.range in
    let begun = first_begun c.args.zone.now c.args.l c.range_at-first.result found in
    simp to_z-of_z begun

pub loop-end-init : goal.loop-end-init
loop-end-init g c =
    let l_fits : FitsSigned w64 c.args.l = c.ranges.l in
    let end_fits : FitsSigned w64 c.range_at-first.result.end = search rules in
    let early_fits : FitsSigned w64 (c.args.l -ℤ pos LONGEST_OFFSET) = search rules in
    let found = simp to_z-of_z at c.range_at-first.ensures.range in
    let told = simp to_z-of_z at c.from_first-findings.ensures in
    let walk = first_seen c.args.zone.now c.args.l c.range_at-first.result c.from_first-findings.result found told in
    simp to_z-of_z walk

pub range_at-range-requires : goal.range_at-range-requires
range_at-range-requires g c =
    let l_fits : FitsSigned w64 c.args.l = c.ranges.l in
    let end = to_z w64 c.loop-end.end-bits in
    let walk : IsWalk c.args.zone.now c.args.l end c.loop-end.findings = simp to_z-of_z at c.loop-end.invariant in
    let not_past : end ≤ℤ (c.args.l +ℤ pos LONGEST_OFFSET) = omega (arith, ints, c.loop-end-test.true) in
    ends_inside c.args.zone.now c.args.l end c.loop-end.findings walk c.requires not_past

next_is : (g : given.Over) (c : goal.After-and-findings g) → IsNext c.args.zone.now c.args.l (to_z w64 c.loop-end.end-bits) c.range_at-range.result c.and-findings.result
next_is g c =
    let l_fits : FitsSigned w64 c.args.l = c.ranges.l in
    let end = to_z w64 c.loop-end.end-bits in
    let walk : IsWalk c.args.zone.now c.args.l end c.loop-end.findings = simp to_z-of_z at c.loop-end.invariant in
    let told = simp to_z-of_z at c.and-findings.ensures in
    next_seen c.args.zone.now c.args.l end c.loop-end.findings c.range_at-range.result c.and-findings.result walk c.range_at-range.ensures.range told

pub loop-end-smaller : goal.loop-end-smaller
loop-end-smaller g c =
    let l_fits : FitsSigned w64 c.args.l = c.ranges.l in
    let end_fits : FitsSigned w64 c.range_at-range.result.end = search rules in
    let end = to_z w64 c.loop-end.end-bits in
    let next = next_is g c in
    let later : end <ℤ to_z w64 (of_z w64 c.range_at-range.result.end) = omega (arith, ints, next.later) in
    let below : end <ℤ (to_z w64 (of_z w64 c.args.l) +ℤ pos 172_801) = omega (arith, ints, c.loop-end-test.true) in
    walks_on end (to_z w64 (of_z w64 c.range_at-range.result.end)) (to_z w64 (of_z w64 c.args.l) +ℤ pos 172_801) later below

pub loop-end-preserved : goal.loop-end-preserved
loop-end-preserved g c =
    let l_fits : FitsSigned w64 c.args.l = c.ranges.l in
    let end_fits : FitsSigned w64 c.range_at-range.result.end = search rules in
    let next = next_is g c in
    simp to_z-of_z next.walk

pub unreachable-requires : goal.unreachable-requires
unreachable-requires g c =
    let l_fits : FitsSigned w64 c.args.l = c.ranges.l in
    let end = to_z w64 c.loop-end.end-bits in
    let walk = rw c.in-Begun.is at c.loop-end.invariant in
    let past : (c.args.l +ℤ pos LONGEST_OFFSET) <ℤ end = omega (arith, ints, c.loop-end-test.false) in
    never_begun c.args.zone.now c.args.l end _ (simp to_z-of_z at walk) past

pub returns : goal.returns
returns g c =
    let l_fits : FitsSigned w64 c.args.l = c.ranges.l in
    let end = to_z w64 c.loop-end.end-bits in
    let walk = rw c.in-Told.is at c.loop-end.invariant in
    let past : (c.args.l +ℤ pos LONGEST_OFFSET) <ℤ end = omega (arith, ints, c.loop-end-test.false) in
    walked c.args.zone.now c.args.l end c.in-Told.info (simp to_z-of_z at walk) past
