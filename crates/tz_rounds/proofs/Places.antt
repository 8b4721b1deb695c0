-- What stands in the places of lists.
use Rattle.std.proofs.Common.{◌≡◌, ℕ, zero, suc, ◌<◌, List, [], ◌∷◌, length, map, refl, ap, subst, arith}
use Rattle.std.specs.Prelude.{All, Result, Ok, Err, OnOk, Some, slice_get}
use Rattle.std.proofs.lemmas.List.Elements.{All-cons, All-head, All-tail}
use Rattle.std.proofs.lemmas.Option.{same_Some}

-- each place inside has an element
pub there_at : {A : Type 0} (xs : List A) (k : ℕ) → k < length xs → (x : A) × (slice_get xs k ≡ Some x)
there_at [] k low = absurd (omega (arith, low))
there_at (x ∷ xs) zero low = (x, refl)
there_at (x ∷ xs) (suc k) low = there_at xs k (omega (arith, low))

-- the image of an element stands in its place
pub map_there : {A B : Type 0} (f : A → B) (xs : List A) (k : ℕ) (x : A) → slice_get xs k ≡ Some x → slice_get (map f xs) k ≡ Some (f x)
map_there f [] k x there = cc
map_there f (y ∷ xs) zero x there = ap (λ it. Some (f it)) (same_Some y x there)
map_there f (y ∷ xs) (suc k) x there = map_there f xs k x there

-- what holds at each place holds of all
pub all_placed : {A : Type 0} (P : A → Type 0) (xs : List A) → ((k : ℕ) (x : A) → slice_get xs k ≡ Some x → P x) → All P xs
all_placed P [] each = λ k d low. absurd (omega (arith, low))
all_placed P (x ∷ xs) each = All-cons P x xs (each zero x refl) (all_placed P xs (λ k y there. each (suc k) y there))

-- what holds of all holds at each place
pub placed : {A : Type 0} (P : A → Type 0) (xs : List A) (k : ℕ) (x : A) → All P xs → slice_get xs k ≡ Some x → P x
placed P [] k x all there = cc
placed P (y ∷ ys) zero x all there = subst P (same_Some y x there) (All-head P y ys all)
placed P (y ∷ ys) (suc k) x all there = placed P ys k x (All-tail P y ys all) there

-- what follows of a success is told where there was one
pub then_ok : {A E : Type 0} {P Q : Type 0} (result : Result A E) → (P → Q) → OnOk result P → OnOk result Q
then_ok (Ok value) follows holds = follows holds
then_ok (Err error) follows holds = tt
