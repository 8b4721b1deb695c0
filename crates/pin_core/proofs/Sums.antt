-- Sums over lists that change at one place, grow or are cut.
use Rattle.std.proofs.Common.{◌≡◌, ◌≢◌, ◌⊎◌, ℕ, zero, suc, ◌+◌, ◌≤◌, ◌<◌, List, [], ◌∷◌, ◌++◌, set, length, get_or, sym, refl, ap, ⊎_elim, inl, inr, arith, Bool, true, false}
use mathlib.Core.Option.{some, some-injective, some-ne-none}
use lib.ListN.{get_elem?}
use Rattle.std.specs.List.{remove}
use Rattle.pin_core.specs.Core.{total, one_if}

module _ {A : Type 0} where
  pub at_set : (l : List A) (i j : ℕ) (a b : A) → get_elem? (set l i a) j ≡ some b → ((j ≡ i) × (a ≡ b)) ⊎ ((j ≢ i) × (get_elem? l j ≡ some b))
  at_set [] i j a b e = absurd (some-ne-none b (sym e))
  at_set (x ∷ xs) zero zero a b e = inl (refl, some-injective a b e)
  at_set (x ∷ xs) zero (suc j) a b e = inr ((λ h. omega arith), e)
  at_set (x ∷ xs) (suc i) zero a b e = inr ((λ h. omega arith), e)
  at_set (x ∷ xs) (suc i) (suc j) a b e = ⊎_elim (λ t. inl (ap suc t.0, t.1)) (λ t. let n = t.0 in inr ((λ h. n (omega arith)), t.1)) (at_set xs i j a b e)

  pub set_else : (l : List A) (i j : ℕ) (a : A) → j ≢ i → get_elem? (set l i a) j ≡ get_elem? l j
  set_else [] i j a n = refl
  set_else (x ∷ xs) zero zero a n = absurd (n refl)
  set_else (x ∷ xs) zero (suc j) a n = refl
  set_else (x ∷ xs) (suc i) zero a n = refl
  set_else (x ∷ xs) (suc i) (suc j) a n = set_else xs i j a (λ e. n (ap suc e))

  pub at_push : (l : List A) (a b : A) (j : ℕ) → get_elem? (l ++ a ∷ []) j ≡ some b → (get_elem? l j ≡ some b) ⊎ (a ≡ b)
  at_push [] a b zero e = inr (some-injective a b e)
  at_push [] a b (suc j) e = absurd (some-ne-none b (sym e))
  at_push (x ∷ xs) a b zero e = inl e
  at_push (x ∷ xs) a b (suc j) e = at_push xs a b j e

  module _ (f : A → ℕ) where
    -- the sum after one element is set
    pub total-set : (l : List A) (j : ℕ) (v w : A) → get_elem? l j ≡ some v → total f (set l j w) + f v ≡ total f l + f w
    total-set [] j v w e = absurd (some-ne-none v (sym e))
    total-set (x ∷ xs) zero v w e = omega (arith, ap f (some-injective x v e))
    total-set (x ∷ xs) (suc j) v w e = omega (arith, total-set xs j v w e)

    -- the same, where the new element counts as much as the old
    pub total_kept : (l : List A) (j : ℕ) (v w : A) → get_elem? l j ≡ some v → f w ≡ f v → total f (set l j w) ≡ total f l
    total_kept l j v w e same = omega (arith, total-set l j v w e)

    pub term_le : (l : List A) (j : ℕ) (v : A) → get_elem? l j ≡ some v → f v ≤ total f l
    term_le [] j v e = absurd (some-ne-none v (sym e))
    term_le (x ∷ xs) zero v e = omega (arith, ap f (some-injective x v e))
    term_le (x ∷ xs) (suc j) v e = omega (arith, term_le xs j v e)

    -- two different places together
    pub terms_le : (l : List A) (j k : ℕ) (v u : A) → k ≢ j → get_elem? l j ≡ some v → get_elem? l k ≡ some u → f v + f u ≤ total f l
    terms_le [] j k v u n e d = absurd (some-ne-none v (sym e))
    terms_le (x ∷ xs) zero zero v u n e d = absurd (n refl)
    terms_le (x ∷ xs) zero (suc k) v u n e d = omega (arith, ap f (some-injective x v e), term_le xs k u d)
    terms_le (x ∷ xs) (suc j) zero v u n e d = omega (arith, ap f (some-injective x u d), term_le xs j v e)
    terms_le (x ∷ xs) (suc j) (suc k) v u n e d = omega (arith, terms_le xs j k v u (λ h. n (ap suc h)) e d)

    pub total-append : (xs ys : List A) → total f (xs ++ ys) ≡ total f xs + total f ys
    total-append [] ys = omega arith
    total-append (x ∷ xs) ys = omega (arith, total-append xs ys)

    -- one element is taken out
    pub total-remove : (xs : List A) (i : ℕ) (d : A) → i < length xs → total f (remove xs i) + f (get_or xs i d) ≡ total f xs
    total-remove [] i d inside = absurd (omega arith)
    total-remove (x ∷ xs) zero d inside = omega arith
    total-remove (x ∷ xs) (suc i) d inside = omega (arith, total-remove xs i d (omega arith))

    some_here : (x : A) (xs : List A) (n : ℕ) → f x ≡ n → 0 < f x + total f xs → (0 < total f xs → (j : ℕ) × (y : A) × (get_elem? xs j ≡ some y) × (0 < f y)) → (j : ℕ) × (y : A) × (get_elem? (x ∷ xs) j ≡ some y) × (0 < f y)
    some_here x xs zero is more later = let rest = later (omega arith) in (suc rest.0, rest.1, rest.2, rest.3)
    some_here x xs (suc n) is more later = (0, x, refl, omega arith)

    -- where a sum is more than 0, some element counts
    pub total_some : (xs : List A) → 0 < total f xs → (j : ℕ) × (x : A) × (get_elem? xs j ≡ some x) × (0 < f x)
    total_some [] more = absurd (omega arith)
    total_some (x ∷ xs) more = some_here x xs (f x) refl more (total_some xs)

  -- a sum of nothing is nothing
  pub total_zero : (f : A → ℕ) (xs : List A) → ((j : ℕ) (x : A) → get_elem? xs j ≡ some x → f x ≡ 0) → total f xs ≡ 0
  total_zero f [] all = refl
  total_zero f (x ∷ xs) all = let here = all 0 x refl in let rest = total_zero f xs (λ j y at. all (suc j) y at) in omega arith

  -- a sum to which one element alone adds
  pub total_alone : (f : A → ℕ) (xs : List A) (i : ℕ) (x : A) → get_elem? xs i ≡ some x → ((j : ℕ) (y : A) → j ≢ i → get_elem? xs j ≡ some y → f y ≡ 0) → total f xs ≡ f x
  total_alone f [] i x at none = absurd (some-ne-none x (sym at))
  total_alone f (y ∷ ys) zero x at none = let same = ap f (some-injective y x at) in let rest = total_zero f ys (λ j z there. none (suc j) z (λ e. omega arith) there) in omega arith
  total_alone f (y ∷ ys) (suc i) x at none = let first = none 0 y (λ e. omega arith) refl in let rest = total_alone f ys i x at (λ j z apart there. none (suc j) z (λ e. apart (omega arith)) there) in omega arith

  -- two functions that agree at each element have one sum
  pub total_agree : (f g : A → ℕ) → ((x : A) → f x ≡ g x) → (xs : List A) → total f xs ≡ total g xs
  total_agree f g same [] = refl
  total_agree f g same (x ∷ xs) = omega (arith, same x, total_agree f g same xs)

  -- no element counts where the sum is 0
  pub total_none : (f : A → ℕ) (xs : List A) (j : ℕ) (x : A) → total f xs ≡ 0 → get_elem? xs j ≡ some x → f x ≡ 0
  total_none f xs j x none at = omega (arith, term_le f xs j x at)

pub one_if-le : (b : Bool) → one_if b ≤ 1
one_if-le true = omega arith
one_if-le false = omega arith

pub one_if-true : (b : Bool) → one_if b ≡ 1 → b ≡ true
one_if-true true is = refl
one_if-true false is = absurd (omega arith)
