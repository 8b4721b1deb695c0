-- Lists that stand in order, by each two neighbours.
use Rattle.std.proofs.Common.{◌≡◌, ℕ, zero, suc, ◌+◌, ◌<◌, Bool, true, false, ◌&&◌, refl, sym, ap, arith, List, [], ◌∷◌, length, map, get_or}
use Rattle.std.specs.List.{IsAllAdjacentAnswer, AllAdjacentBelow}
use Rattle.tz_types.specs.Order.{ascends, ascends_after}

and_true : (a b : Bool) → a ≡ true → b ≡ true → (a && b) ≡ true
and_true a b h k = grind arith

and_false_left : (a b : Bool) → a ≡ false → (a && b) ≡ false
and_false_left a b h = grind arith

and_false_right : (a b : Bool) → b ≡ false → (a && b) ≡ false
and_false_right true b h = h
and_false_right false b h = refl

after_all : {A : Type 0} (before : A → A → Bool) (x : A) (xs : List A) → AllAdjacentBelow (λ a b. true ≡ before a b) (x ∷ xs) (length (x ∷ xs)) → ascends_after before x xs ≡ true
after_all before x [] each = refl
after_all before x (y ∷ xs) each =
    and_true (before x y) (ascends_after before y xs) (sym (each 0 x (omega arith)))
    (after_all before y xs (λ k d within. let next : suc k + 1 ≡ suc (k + 1) = omega arith in rw next at (each (suc k) d (omega arith))))

after_one : {A : Type 0} (before : A → A → Bool) (x : A) (xs : List A) (k : ℕ) → k < length xs → ((d : A) → false ≡ before (get_or (x ∷ xs) k d) (get_or (x ∷ xs) (suc k) d)) → ascends_after before x xs ≡ false
after_one before x [] k within not = absurd (omega arith)
after_one before x (y ∷ xs) zero within not =
    and_false_left (before x y) (ascends_after before y xs) (sym (not x))
after_one before x (y ∷ xs) (suc k) within not =
    and_false_right (before x y) (ascends_after before y xs) (after_one before y xs k (omega arith) not)

-- what `is_sorted_by` answers
pub ascends_by_neighbours : {A : Type 0} (before : A → A → Bool) (xs : List A) (r : Bool) → IsAllAdjacentAnswer (λ a b t. t ≡ before a b) xs r → r ≡ ascends before xs
ascends_by_neighbours before [] true answer = refl
ascends_by_neighbours before (x ∷ xs) true answer = sym (after_all before x xs answer)
ascends_by_neighbours before [] false answer = absurd (omega (arith, answer.1))
ascends_by_neighbours before (x ∷ xs) false answer =
    sym (after_one before x xs answer.0 (omega (arith, answer.1)) (λ d. let next : answer.0 + 1 ≡ suc answer.0 = omega arith in rw next at (answer.2 d)))

-- keys stand in order where their elements do by their keys
after_keys : {A B : Type 0} (before : B → B → Bool) (key : A → B) (x : A) (xs : List A) → ascends_after (λ a b. before (key a) (key b)) x xs ≡ ascends_after before (key x) (map key xs)
after_keys before key x [] = refl
after_keys before key x (y ∷ ys) = ap (λ (rest : Bool). before (key x) (key y) && rest) (after_keys before key y ys)

pub ascends_by_keys : {A B : Type 0} (before : B → B → Bool) (key : A → B) (xs : List A) → ascends (λ a b. before (key a) (key b)) xs ≡ ascends before (map key xs)
ascends_by_keys before key [] = refl
ascends_by_keys before key (x ∷ xs) = after_keys before key x xs
