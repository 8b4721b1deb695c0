-- Meetings of the list one after another, and the pins over them.
use Rattle.std.proofs.Common.{◌≡◌, ℕ, zero, suc, ◌≤◌, List, [], ◌∷◌, ◌++◌, length, IsPermutation, append-nil, sym, ap, subst, ◌∙◌, arith}
use Rattle.std.specs.Prelude.{Some, slice_get}
use Rattle.std.specs.List.{remove}
use Rattle.std.proofs.lemmas.List.Sorted.{IsPermutation-refl, IsPermutation-sym, IsPermutation-cons, IsPermutation-to_front}
use Rattle.pin_core.specs.declared.entry.Entry.{Entry}
use Rattle.pin_core.specs.declared.view.View.{View}
use Rattle.pin_table.proofs.PlaceLemmas.{take_seen, no_shorter}
use Rattle.tz_lane.specs.Meeting.{KeepsNumbers, Meets}
use Rattle.tz_lane.specs.Pins.{IsLeft}

pub keeps_twice : (v middle later : View) → KeepsNumbers v middle → KeepsNumbers middle later → KeepsNumbers v later
keeps_twice v middle later first second = record {
  role = second.role ∙ first.role;
  numbers = second.numbers ∙ first.numbers;
  floor = second.floor ∙ first.floor;
}

-- what is added behind a list and then taken off, where such a one stands, leaves the list but for its order
pub added_and_removed : {X : Type 0} (xs : List X) (x : X) (at : ℕ) → slice_get (xs ++ x ∷ []) at ≡ Some x → IsPermutation xs (remove (xs ++ x ∷ []) at)
added_and_removed [] x zero there = IsPermutation-refl []
added_and_removed [] x (suc at) there = absurd cc
added_and_removed (y ∷ ys) x zero there =
    let same : y ≡ x = cc in
    subst (λ it. IsPermutation (it ∷ ys) (ys ++ x ∷ [])) (sym same) (backwards ys x)
  where
    backwards : {X : Type 0} (ys : List X) (x : X) → IsPermutation (x ∷ ys) (ys ++ x ∷ [])
    backwards ys x = IsPermutation-sym (ys ++ x ∷ []) (x ∷ ys) (IsPermutation-to_front ys x)
added_and_removed (y ∷ ys) x (suc at) there = IsPermutation-cons y ys (remove (ys ++ x ∷ []) at) (added_and_removed ys x at there)

-- a pin that was added and then taken off leaves the pins but for their order
pub pinned_and_left : (entries middle later : List Entry) (pin : Entry) → middle ≡ entries ++ pin ∷ [] → IsLeft middle pin later → IsPermutation entries later
pinned_and_left entries middle later pin added left =
    subst (λ (those : List Entry). IsPermutation entries those) (sym (left.is ∙ ap (λ (those : List Entry). remove those left.at) added))
    (added_and_removed entries pin left.at (subst (λ (those : List Entry). slice_get those left.at ≡ Some pin) added left.there))
