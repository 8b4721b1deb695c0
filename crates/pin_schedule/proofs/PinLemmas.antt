-- Which pin is taken off.
use Rattle.std.proofs.Common.{◌≡◌, ℕ, ◌≤◌, ◌==◌, ◌||◌, Bool, List, length, get_or, sym, refl, ap, ◌∙◌, ⊎_elim, arith, ltb, not, true, false, Option, Some, None}
use Rattle.std.specs.Prelude.{nat_le, position, slice_get}
use Rattle.std.specs.List.{All, list_all, position_or_len}
use Rattle.std.specs.Option.{option_or}
use Rattle.std.proofs.lemmas.Bool.{both_ways, cond-true, ltb-false, and_parts, and_from, or_cases, not-true, not_from_false, eq-eqb, leb-true, false_from_ne_true, cases_Bool}
use Rattle.std.proofs.lemmas.List.Sums.{AllPass-from_list_all, prefix_len_passes}
use Rattle.std.proofs.lemmas.List.Quantifiers.{position-Some}
use Rattle.std.proofs.lemmas.Option.{get_or_from_slice_get}
use Rattle.pin_core.specs.declared.entry.Entry.{Entry}
use Rattle.pin_schedule.specs.Pin.{is_stray_at, is_held_at, is_oldest_at, taken_place}
use Rattle.pin_schedule.specs.Schedule.{entry_at}
use Rattle.pin_schedule.proofs.StepLemmas.{taken_there}

-- the entry in a place
entry_is : (entries : List Entry) (place : ℕ) (e : Entry) → slice_get entries place ≡ Some e → entry_at entries place ≡ e
entry_is entries place e at = get_or_from_slice_get entries place e record { slot = 0; position = 0; held = false } at

pub taken_slot : (slot place : ℕ) (entries : List Entry) (e : Entry) → taken_place slot entries ≡ Some place → slice_get entries place ≡ Some e → e.slot ≡ slot
taken_slot slot place entries e is at = sym (ap (λ (x : Entry). x.slot) (entry_is entries place e at)) ∙ (taken_there slot place entries is).1

-- a search that finds nothing found nothing anywhere
none_passes : (p : Entry → Bool) (entries : List Entry) → position p entries ≡ None → All (λ (e : Entry). p e ≡ false) entries
none_passes p entries none k d low =
    let first = position_or_len p entries in
    let past : ltb first (length entries) ≡ false = false_from_ne_true (ltb first (length entries)) (λ t. (let found = sym (cond-true (ltb first (length entries)) (Some first) None t) ∙ none in absurd (cc))) in
    let high = ltb-false first (length entries) past in
    not-true (p (get_or entries k d)) (prefix_len_passes (λ (e : Entry). not (p e)) entries k d (omega arith))

second : (a b : Option ℕ) (place : ℕ) → option_or a b ≡ Some place → (a ≡ Some place → ⊥) → (a ≡ None) × (b ≡ Some place)
second None b place is never = (refl, is)
second (Some other) b place is never = absurd (never is)

pub taken_oldest : (slot place : ℕ) (entries : List Entry) (e : Entry) → taken_place slot entries ≡ Some place → slice_get entries place ≡ Some e → e.held ≡ true
    → All (λ (other : Entry). other.slot ≡ slot → (other.held ≡ true) × (e.position ≤ other.position)) entries
taken_oldest slot place entries e is at held k d low same =
    let here = entry_is entries place e at in
    let nothing : Entry = record { slot = 0; position = 0; held = false } in
    let no_stray : position (is_stray_at slot) entries ≡ Some place → ⊥ = λ stray.
    (let found = (position-Some (is_stray_at slot) entries place nothing stray).1 in
    let parts = and_parts ((entry_at entries place).slot == slot) (not (entry_at entries place).held) found in
    both_ways (entry_at entries place).held (not-true (entry_at entries place).held parts.1) (ap (λ (x : Entry). x.held) here ∙ held)) in
    let both = second (position (is_stray_at slot) entries) (position (is_oldest_at slot entries) entries) place is no_stray in
    let other = get_or entries k d in
    let is_here = eq-eqb other.slot slot same in
    let other_held : other.held ≡ true = ⊎_elim (λ (t : other.held ≡ true). t)
    (λ (f : other.held ≡ false). absurd (both_ways (is_stray_at slot other) (none_passes (is_stray_at slot) entries both.0 k d low) (and_from (other.slot == slot) (not other.held) is_here (not_from_false other.held f))))
    (cases_Bool other.held) in
    let found = (position-Some (is_oldest_at slot entries) entries place nothing both.1).1 in
    let least = and_parts (is_held_at slot (entry_at entries place)) (list_all (λ (x : Entry). not (is_held_at slot x) || nat_le (entry_at entries place).position x.position) entries) found in
    let each = AllPass-from_list_all (λ (x : Entry). not (is_held_at slot x) || nat_le (entry_at entries place).position x.position) entries least.1 k d low in
    let held_here = and_from (other.slot == slot) other.held is_here other_held in
    let position_same = ap (λ (x : Entry). x.position) here in (
      other_held,
      ⊎_elim
          (λ (t : not (is_held_at slot other) ≡ true). absurd (both_ways (is_held_at slot other) (not-true (is_held_at slot other) t) held_here))
          (λ (t : nat_le (entry_at entries place).position other.position ≡ true). let less = leb-true (entry_at entries place).position other.position t in omega arith)
          (or_cases (not (is_held_at slot other)) (nat_le (entry_at entries place).position other.position) each),
    )
