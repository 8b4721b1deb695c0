use Rattle.std.proofs.Common.{◌≡◌, ◌∙◌, ap, List, int_le, arith, to_z, of_z, FitsSigned}
use Rattle.std.specs.Int.{w64}
use Rattle.std.specs.List.{count_by}
use Rattle.std.proofs.lemmas.Int.{ints, to_z-of_z}
use Rattle.tz_types.specs.declared.leap_entry.LeapEntry.{LeapEntry}
use Rattle.tz_leap.proofs.SearchLemmas.{added_from_count}
use Rattle.tz_leap.proofs.search.added_by.Goals as goal

pub returns-clause-value : goal.returns-clause-value
returns-clause-value c =
    let leaps = c.args.leaps.now in
    let fits_t : FitsSigned w64 c.args.t = c.ranges.t in
    let count : c.entries_by.result ≡ count_by (λ (entry : LeapEntry). int_le entry.date c.args.t) leaps.entries =
    (simp to_z-of_z at c.entries_by.ensures.count) ∙ ap (λ (xs : List LeapEntry). count_by (λ (entry : LeapEntry). int_le entry.date c.args.t) xs) c.as_slice.ensures in
    let fits : to_z w64 (of_z w64 c.sum_before.result) ≡ c.sum_before.result = omega (arith, ints, c.sum_before.ensures.bound.0, c.sum_before.ensures.bound.1) in
    fits ∙ c.sum_before.ensures.value ∙ added_from_count leaps.entries leaps.ascending c.args.t c.entries_by.result count
