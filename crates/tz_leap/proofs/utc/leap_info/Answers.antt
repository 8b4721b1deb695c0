use Rattle.std.proofs.Common.{◌≡◌, ◌∙◌, ◌-ℤ◌, arith, to_z, of_z, FitsSigned}
use Rattle.std.specs.Int.{w64}
use Rattle.std.specs.List.{count_by}
use Rattle.std.proofs.lemmas.Int.{ints, to_z-of_z}
use Rattle.jiff_core.specs.Calendar.{IsWithin}
use Rattle.tz_specs.specs.LeapSecond.{counts_at, is_inserted, is_past}
use Rattle.tz_leap.proofs.SearchLemmas.{time_from_count, elapsed_is, law_from_count}
use Rattle.tz_leap.proofs.utc.leap_info.Goals as goal

pub returns-clause-info : goal.returns-clause-info
returns-clause-info c =
    let fits : FitsSigned w64 c.args.u = c.ranges.u in
    let leaps = c.args.leaps.now in
    let near : IsWithin 377_705_116_800 c.args.u = simp to_z-of_z at (c.is_utc_count.ensures.near c.if-not-is_utc_count.false) in
    let count : c.entries_at-count.result ≡ count_by (counts_at leaps.entries c.args.u) leaps.entries = simp to_z-of_z at c.entries_at-count.ensures.count in
    let bound = c.sum_before-elapsed.ensures.bound in
    let time = c.args.u -ℤ c.sum_before-elapsed.result in
    let plain : to_z w64 (of_z w64 (to_z w64 (of_z w64 c.args.u) -ℤ to_z w64 (of_z w64 c.sum_before-elapsed.result))) ≡ time = omega (arith, ints, bound.0, bound.1, near.0, near.1) in
    let elapsed : to_z w64 (of_z w64 c.sum_before-elapsed.result) ≡ c.sum_before-elapsed.result = omega (arith, ints, bound.0, bound.1) in
    let leap : c.is_inserted_second.result ≡ is_inserted leaps.entries c.args.u = simp to_z-of_z at c.is_inserted_second.ensures in
    let past : c.is_past.result ≡ is_past leaps.expires time = rw plain at c.is_past.ensures in
    record {
      is_leap = leap;
      elapsed = elapsed ∙ c.sum_before-elapsed.ensures.value ∙ elapsed_is leaps.entries leaps.ascending c.args.u c.entries_at-count.result count;
      time = time;
      is_time = rw c.sum_before-elapsed.ensures.value (time_from_count leaps.entries leaps.ascending c.args.u c.entries_at-count.result count);
      expired = past;
    }

pub returns-clause-elapsed : goal.returns-clause-elapsed
returns-clause-elapsed c =
    let fits : FitsSigned w64 c.args.u = c.ranges.u in
    let leaps = c.args.leaps.now in
    let count : c.entries_at-count.result ≡ count_by (counts_at leaps.entries c.args.u) leaps.entries = simp to_z-of_z at c.entries_at-count.ensures.count in
    let bound = c.sum_before-elapsed.ensures.bound in
    let elapsed : to_z w64 (of_z w64 c.sum_before-elapsed.result) ≡ c.sum_before-elapsed.result = omega (arith, ints, bound.0, bound.1) in
    λ t is. rw (elapsed, c.sum_before-elapsed.ensures.value) (law_from_count leaps.entries leaps.ascending c.args.u c.entries_at-count.result count t is)
