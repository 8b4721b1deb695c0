use Rattle.std.proofs.Common.{rules, arith, FitsSigned, to_z, ℤ, pos, ◌+ℤ◌, ◌-ℤ◌, ◌*ℤ◌, ◌≤ℤ◌, ◌<ℤ◌}
use Rattle.std.specs.Int.{w64}
use Rattle.std.proofs.lemmas.Int.{ints, to_z-of_z}
use Rattle.jiff_core.proofs.SignedLemmas.{signed_arith}
use Rattle.tz_types.specs.declared.limit.TheConstants.{LONGEST_OFFSET}
use Rattle.tz_specs.specs.Expansion.{first_instant}
use Rattle.tz_local.proofs.InfoLemmas.{walks_on}
use Rattle.tz_moves.specs.Day.{IsDay, midnight}
use Rattle.tz_moves.proofs.DayLemmas.{fits_small, IsSummed, first_summed, next_summed, all_summed, few_summed, end_begun}
use Rattle.tz_moves.proofs.day.seconds_among.Goals as goal

midnight_fits : (day : ℤ) → IsDay day → FitsSigned w64 (day *ℤ pos 86_400)
midnight_fits day inside = fits_small (midnight day) (omega (arith, ints, signed_arith, inside)) (omega (arith, ints, signed_arith, inside))

before_fits : (day : ℤ) → IsDay day → FitsSigned w64 (day *ℤ pos 86_400 -ℤ pos LONGEST_OFFSET)
before_fits day inside = fits_small (midnight day -ℤ pos LONGEST_OFFSET) (omega (arith, ints, signed_arith, inside)) (omega (arith, ints, signed_arith, inside))

next_fits : (day : ℤ) → IsDay day → FitsSigned w64 (day +ℤ pos 1)
next_fits day inside = fits_small (day +ℤ pos 1) (omega (arith, ints, signed_arith, inside)) (omega (arith, ints, signed_arith, inside))

midnight_next_fits : (day : ℤ) → IsDay day → FitsSigned w64 ((day +ℤ pos 1) *ℤ pos 86_400)
midnight_next_fits day inside = fits_small (midnight (day +ℤ pos 1)) (omega (arith, ints, signed_arith, inside)) (omega (arith, ints, signed_arith, inside))

after_fits : (day : ℤ) → IsDay day → FitsSigned w64 ((day +ℤ pos 1) *ℤ pos 86_400 +ℤ pos LONGEST_OFFSET)
after_fits day inside = fits_small (midnight (day +ℤ pos 1) +ℤ pos LONGEST_OFFSET) (omega (arith, ints, signed_arith, inside)) (omega (arith, ints, signed_arith, inside))

pub loop-range-init : goal.loop-range-init
loop-range-init g c =
    let day = c.args.day in
    let day_fits : FitsSigned w64 day = c.ranges.day in
    let seconds_fits : FitsSigned w64 c.seconds_in-seconds.result = search rules in
    let inside : IsDay day = c.requires in
    let here : FitsSigned w64 (day *ℤ pos 86_400) = midnight_fits day inside in
    let early : FitsSigned w64 (day *ℤ pos 86_400 -ℤ pos LONGEST_OFFSET) = before_fits day inside in
    let found = simp to_z-of_z at c.range_at-range.ensures.range in
    let told = simp to_z-of_z at c.seconds_in-seconds.ensures.value in
    let walk = first_summed c.args.zone.now day c.seconds_in-seconds.result c.range_at-range.result found told in
    simp to_z-of_z walk

pub range_at-range-requires-in-loop-range : goal.range_at-range-requires-in-loop-range
range_at-range-requires-in-loop-range g c =
    let day = c.args.day in
    let day_fits : FitsSigned w64 day = c.ranges.day in
    let end_fits : FitsSigned w64 c.loop-range.range.end = search rules in
    let begun : first_instant ≤ℤ c.loop-range.range.end = end_begun _ _ c.loop-range.range.end _ c.loop-range.invariant in
    let inside : IsDay day = c.requires in
    (omega (arith, ints, begun), omega (arith, ints, signed_arith, c.loop-range-test.true, inside))

pub overflow_add-seconds : goal.overflow_add-seconds
overflow_add-seconds g c =
    let few = few_summed _ _ _ _ c.loop-range.invariant in
    let more = c.seconds_in-seconds-in-loop-range.ensures.bound in
    let more_fits : FitsSigned w64 c.seconds_in-seconds-in-loop-range.result = search rules in
    fits_small _ (omega (arith, ints, few, more)) (omega (arith, ints, few, more))

pub loop-range-smaller : goal.loop-range-smaller
loop-range-smaller g c =
    let end_fits : FitsSigned w64 c.loop-range.range.end = search rules in
    let next_end_fits : FitsSigned w64 c.range_at-range-in-loop-range.result.end = search rules in
    let day = c.args.day in
    let day_fits : FitsSigned w64 day = c.ranges.day in
    let inside : IsDay day = c.requires in
    let next_in : FitsSigned w64 (day +ℤ pos 1) = next_fits day inside in
    let midnight_in : FitsSigned w64 ((day +ℤ pos 1) *ℤ pos 86_400) = midnight_next_fits day inside in
    let after_in : FitsSigned w64 ((day +ℤ pos 1) *ℤ pos 86_400 +ℤ pos LONGEST_OFFSET) = after_fits day inside in
    let later : c.loop-range.range.end <ℤ c.range_at-range-in-loop-range.result.end = omega (arith, ints, c.range_at-range-in-loop-range.ensures.holds) in
    let goes_on = simp to_z-of_z at c.loop-range-test.true in
    let below : c.loop-range.range.end <ℤ (midnight (day +ℤ pos 1) +ℤ pos LONGEST_OFFSET) = omega (arith, ints, signed_arith, goes_on) in
    let smaller = walks_on c.loop-range.range.end c.range_at-range-in-loop-range.result.end (midnight (day +ℤ pos 1) +ℤ pos LONGEST_OFFSET) later below in
    simp to_z-of_z smaller

pub loop-range-preserved : goal.loop-range-preserved
loop-range-preserved g c =
    let day = c.args.day in
    let day_fits : FitsSigned w64 day = c.ranges.day in
    let end_fits : FitsSigned w64 c.loop-range.range.end = search rules in
    let more = c.seconds_in-seconds-in-loop-range.result in
    let more_fits : FitsSigned w64 more = search rules in
    let seconds = to_z w64 c.loop-range.seconds-bits in
    let few = few_summed _ _ _ _ c.loop-range.invariant in
    let bound = c.seconds_in-seconds-in-loop-range.ensures.bound in
    let sum_fits : FitsSigned w64 (seconds +ℤ more) = fits_small (seconds +ℤ more) (omega (arith, ints, few, bound)) (omega (arith, ints, few, bound)) in
    let walk : IsSummed c.args.zone.now day c.loop-range.range.end seconds = simp to_z-of_z at c.loop-range.invariant in
    let found = simp to_z-of_z at c.range_at-range-in-loop-range.ensures.range in
    let told = simp to_z-of_z at c.seconds_in-seconds-in-loop-range.ensures.value in
    let next = next_summed c.args.zone.now day c.loop-range.range.end seconds more c.range_at-range-in-loop-range.result walk found told in
    simp to_z-of_z next

pub returns-clause-value : goal.returns-clause-value
returns-clause-value g c =
    let day = c.args.day in
    let day_fits : FitsSigned w64 day = c.ranges.day in
    let end_fits : FitsSigned w64 c.loop-range.range.end = search rules in
    let seconds = to_z w64 c.loop-range.seconds-bits in
    let inside : IsDay day = c.requires in
    let next_in : FitsSigned w64 (day +ℤ pos 1) = next_fits day inside in
    let midnight_in : FitsSigned w64 ((day +ℤ pos 1) *ℤ pos 86_400) = midnight_next_fits day inside in
    let after_in : FitsSigned w64 ((day +ℤ pos 1) *ℤ pos 86_400 +ℤ pos LONGEST_OFFSET) = after_fits day inside in
    let walk : IsSummed c.args.zone.now day c.loop-range.range.end seconds = simp to_z-of_z at c.loop-range.invariant in
    let stopped = simp to_z-of_z at c.loop-range-test.false in
    let past : (midnight (day +ℤ pos 1) +ℤ pos LONGEST_OFFSET) ≤ℤ c.loop-range.range.end = omega (arith, ints, signed_arith, stopped) in
    all_summed c.args.zone.now day c.loop-range.range.end seconds walk past

pub returns-clause-bound : goal.returns-clause-bound
returns-clause-bound g c = few_summed _ _ _ _ c.loop-range.invariant
