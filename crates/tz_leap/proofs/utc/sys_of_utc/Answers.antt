use Rattle.std.proofs.Common.{◌≡◌, ◌∙◌, ◌-ℤ◌, arith, to_z, of_z, FitsSigned}
use Rattle.std.specs.Int.{w64}
use Rattle.std.specs.List.{count_by}
use Rattle.std.proofs.lemmas.Int.{ints, to_z-of_z}
use Rattle.jiff_core.specs.Calendar.{IsWithin}
use Rattle.tz_specs.specs.LeapSecond.{counts_at}
use Rattle.tz_leap.proofs.SearchLemmas.{time_from_count, elapsed_is}
use Rattle.tz_leap.proofs.utc.sys_of_utc.Goals as goal

pub returns-clause-value : goal.returns-clause-value
returns-clause-value c =
    let fits : FitsSigned w64 c.args.u = c.ranges.u in
    let leaps = c.args.leaps.now in
    let near : IsWithin 377_705_116_800 c.args.u = simp to_z-of_z at (c.is_utc_count.ensures.near c.if-not-is_utc_count.false) in
    let count : c.entries_at.result ≡ count_by (counts_at leaps.entries c.args.u) leaps.entries = simp to_z-of_z at c.entries_at.ensures.count in
    let bound = c.sum_before.ensures.bound in
    let plain : to_z w64 (of_z w64 (to_z w64 (of_z w64 c.args.u) -ℤ to_z w64 (of_z w64 c.sum_before.result))) ≡ c.args.u -ℤ c.sum_before.result = omega (arith, ints, bound.0, bound.1, near.0, near.1) in
    rw (plain, c.sum_before.ensures.value) (time_from_count leaps.entries leaps.ascending c.args.u c.entries_at.result count)

pub returns-clause-elapsed : goal.returns-clause-elapsed
returns-clause-elapsed c =
    let fits : FitsSigned w64 c.args.u = c.ranges.u in
    let leaps = c.args.leaps.now in
    let near : IsWithin 377_705_116_800 c.args.u = simp to_z-of_z at (c.is_utc_count.ensures.near c.if-not-is_utc_count.false) in
    let count : c.entries_at.result ≡ count_by (counts_at leaps.entries c.args.u) leaps.entries = simp to_z-of_z at c.entries_at.ensures.count in
    let bound = c.sum_before.ensures.bound in
    let is = c.sum_before.ensures.value ∙ elapsed_is leaps.entries leaps.ascending c.args.u c.entries_at.result count in
    omega (arith, ints, bound.0, bound.1, near.0, near.1, is)
