-- The front that a call of the table tells, as the list's at a position.
use Rattle.std.proofs.Common.{◌≡◌, ℕ, zero, suc, ◌≤◌, ◌<◌, List, [], ◌∷◌, length, take, get_or, IsPermutation, refl, sym, ap, subst, ◌∙◌, arith}
use Rattle.std.specs.Prelude.{Some, slice_get}
use Rattle.std.specs.List.{remove}
use Rattle.std.proofs.Math.Seq.{take-length}
use Rattle.std.proofs.lemmas.Option.{same_Some}
use Rattle.std.proofs.lemmas.List.Sorted.{IsPermutation-remove}
use Rattle.pin_book.specs.declared.write.Write.{Write}
use Rattle.pin_book.specs.Replay.{front_of, state_after, front_number, front_slot}
use Rattle.pin_core.specs.declared.entry.Entry.{Entry}
use Rattle.pin_core.specs.declared.view.View.{View}
use Rattle.pin_table.specs.Handles.{Handle, MadeBy}
use Rattle.pin_table.specs.Position.{IsAfter}
use Rattle.pin_table.specs.declared.sitting.Plan.{Plan}
use Rattle.pin_table.specs.declared.position.Position.{Position}
use Rattle.tz_batch.specs.Answering.{IsToldAs}

-- the front after all that is seen
pub front_told : (slots : ℕ) (seen : List Write) (position : Position) → IsAfter slots seen position
    → IsToldAs (front_of (state_after slots (take position.w seen)).listed) position.n position.slot
unfolding front_number front_slot
front_told slots seen position after =
    let all : take position.w seen ≡ seen = ap (λ w. take w seen) after.w ∙ take-length seen in (
      ap (λ (those : List Write). (front_of (state_after slots those).listed).n) all ∙ sym after.n,
      ap (λ (those : List Write). (front_of (state_after slots those).listed).slot) all ∙ sym after.slot,
    )

-- a handle's version was at the front at the handle's position
pub handle_told : {P H : Type 0} {home : P → H} {source : P → ℕ} (plan : Plan P) (v : View) (handle : Handle P) → MadeBy home source plan v handle
    → IsToldAs (front_of (state_after plan.slots (take handle.position v.seen)).listed) handle.number handle.slot
unfolding front_number front_slot
handle_told plan v handle made = (sym made.number, sym made.holds.slot)

-- what stands up to a position that was seen stands there later on
pub seen_stays : (seen later : List Write) (w : ℕ) → take (length seen) later ≡ seen → w ≤ length seen → take w later ≡ take w seen
seen_stays seen later w grows low = sym (first_of w (length seen) later low) ∙ ap (take w) grows
  where
    first_of : (j k : ℕ) (xs : List Write) → j ≤ k → take j (take k xs) ≡ take j xs
    first_of zero k xs low = refl
    first_of (suc j) zero xs low = absurd (omega (arith, low))
    first_of (suc j) (suc k) [] low = refl
    first_of (suc j) (suc k) (x ∷ xs) low = ap (λ (ys : List Write). x ∷ ys) (first_of j k xs (omega (arith, low)))

-- a handle's version, once more is seen
pub handle_told_later : {P H : Type 0} {home : P → H} {source : P → ℕ} (plan : Plan P) (v : View) (later : List Write) (handle : Handle P) → MadeBy home source plan v handle
    → take (length v.seen) later ≡ v.seen → IsToldAs (front_of (state_after plan.slots (take handle.position later)).listed) handle.number handle.slot
handle_told_later plan v later handle made grows =
    subst (λ (writes : List Write). IsToldAs (front_of (state_after plan.slots writes).listed) handle.number handle.slot)
    (sym (seen_stays v.seen later handle.position grows made.holds.told)) (handle_told plan v handle made)

-- a pin that is taken off was one of the pins
pub taken_off : (entries : List Entry) (place : ℕ) (e : Entry) → slice_get entries place ≡ Some e → IsPermutation entries (e ∷ remove entries place)
taken_off entries place e there =
    let at = at_place entries place e there in
    IsPermutation-remove entries place e at.0 (sym at.1)
  where
    at_place : (xs : List Entry) (k : ℕ) (x : Entry) → slice_get xs k ≡ Some x → (k < length xs) × (get_or xs k x ≡ x)
    at_place [] k x there = cc
    at_place (y ∷ xs) zero x there = (omega arith, same_Some y x there)
    at_place (y ∷ xs) (suc k) x there = let rest = at_place xs k x there in (omega (arith, rest.0), rest.1)
