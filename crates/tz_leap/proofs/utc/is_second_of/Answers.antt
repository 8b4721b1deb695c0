use Rattle.std.proofs.Common.{◌≡◌, ◌∙◌, ap, sym, List, get_or, true, false, ℤ, pos, ◌-ℤ◌, rules, arith, to_z, of_z, FitsSigned}
use Rattle.std.specs.Int.{w64}
use Rattle.std.specs.Ordering.{int_eq}
use Rattle.std.proofs.lemmas.Int.{ints}
use Rattle.std.proofs.lemmas.List.{get_or_default}
use Rattle.tz_types.specs.declared.leap_entry.LeapEntry.{LeapEntry}
use Rattle.tz_specs.proofs.LeapLemmas.{no_entry, date_at, added_at, entry_at}
use Rattle.tz_leap.proofs.SearchLemmas.{same_bits}
use Rattle.tz_leap.proofs.utc.is_second_of.Goals as goal

pub returns-then-entry : goal.returns-then-entry
returns-then-entry c =
    let xs = c.args.leaps.now.entries in
    let place = c.args.place in
    let here : get_or c.as_slice.result.now place (record { date = pos 0; added = false }) ≡ entry_at xs place = ap (λ (list : List LeapEntry). entry_at list place) c.as_slice.ensures in
    let date_fits : FitsSigned w64 (date_at xs place) = search rules in
    let bound = c.sum_before.ensures.bound in
    let near = c.requires.near in
    let back = c.args.u -ℤ c.sum_before.result in
    let back_fits : FitsSigned w64 back = omega (arith, ints, bound.0, bound.1, near.0, near.1) in
    let plain : to_z w64 (of_z w64 c.args.u) -ℤ to_z w64 (of_z w64 c.sum_before.result) ≡ back = omega (arith, ints, bound.0, bound.1, near.0, near.1) in
    let added : added_at xs place ≡ true = ap (λ (it : LeapEntry). it.added) (sym here) ∙ c.if-entry.true in
    λ missing. rw (get_or_default xs place missing no_entry c.requires.there, added, here, plain) (same_bits (date_at xs place) back date_fits back_fits ∙ ap (λ (sum : ℤ). int_eq (date_at xs place) (c.args.u -ℤ sum)) c.sum_before.ensures.value)
