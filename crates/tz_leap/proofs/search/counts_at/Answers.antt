use Rattle.std.proofs.Common.{◌≡◌, ap, List, get_or, pos, ◌-ℤ◌, ◌+ℤ◌, false, if◌then◌else◌, rules, arith, to_z, of_z, FitsSigned}
use Rattle.std.specs.Int.{w64}
use Rattle.std.proofs.lemmas.Int.{ints, to_z-of_z}
use Rattle.tz_types.specs.declared.leap_entry.LeapEntry.{LeapEntry}
use Rattle.tz_specs.proofs.LeapLemmas.{date_at, added_at, entry_at}
use Rattle.tz_leap.proofs.SearchLemmas.{counts_is}
use Rattle.tz_leap.proofs.search.counts_at.Goals as goal

pub returns : goal.returns
returns c =
    let xs = c.args.leaps.now.entries in
    let place = c.args.place in
    let here : get_or c.as_slice.result.now place (record { date = pos 0; added = false }) ≡ entry_at xs place = ap (λ (list : List LeapEntry). entry_at list place) c.as_slice.ensures in
    let date_fits : FitsSigned w64 (date_at xs place) = search rules in
    let date : to_z w64 (of_z w64 (get_or c.as_slice.result.now place (record { date = pos 0; added = false })).date) ≡ date_at xs place = rw here (to_z-of_z w64 (date_at xs place) date_fits) in
    let lead : c.lead.result ≡ (if added_at xs place then pos 0 else pos 1) = rw here at c.lead.ensures.value in
    let bound = c.sum_before.ensures.bound in
    let near = c.requires.near in
    let plain : to_z w64 (of_z w64 (to_z w64 (of_z w64 (to_z w64 (of_z w64 c.args.u) -ℤ to_z w64 (of_z w64 c.sum_before.result))) +ℤ to_z w64 (of_z w64 c.lead.result))) ≡ (c.args.u -ℤ c.sum_before.result) +ℤ c.lead.result = omega (arith, ints, bound.0, bound.1, near.0, near.1, c.lead.ensures.bound.0, c.lead.ensures.bound.1) in
    λ missing. rw (date, plain, c.sum_before.ensures.value, lead) (counts_is xs c.args.leaps.now.ascending c.args.u place missing c.requires.there)
