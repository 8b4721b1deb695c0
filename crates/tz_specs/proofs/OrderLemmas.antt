-- The order of occurrences, and the list that stands in it.
use Rattle.std.proofs.Common.{◌≡◌, ℕ, ◌<◌, Bool, true, false, ◌||◌, ◌&&◌, ◌⊎◌, inl, inr, ⊎_elim, refl, ◌∙◌, arith, List, [], ◌∷◌, ℤ, ◌<ℤ◌, nat_lt, Some}
use Rattle.std.specs.Prelude.{int_lt, slice_get}
use Rattle.std.specs.Ordering.{int_eq}
use Rattle.std.proofs.lemmas.Int.{ints}
use Rattle.std.proofs.lemmas.Bool.{cond-true, cond-false, and_parts, and_from, or_cases, or_left, or_right, ltb-true, lt-ltb, false_from_ne_true}
use Rattle.std.proofs.lemmas.Bool.Decides.{Decides-int_eq}
use Rattle.tz_specs.specs.Occurrence.{Occurrence, nominal_of, precedes, put_in_order, in_order}
use Rattle.tz_specs.proofs.Tests.{by_test, not_both, int_lt-true, lt-int_lt}
use Rattle.tz_specs.proofs.ListLemmas.{In, Pairs, Pairs-get}

-- the test that `precedes` is, on numbers
abbrev before : ℤ → ℕ → ℤ → ℕ → Bool
before a m b n = int_lt a b || (int_eq a b && nat_lt m n)

abbrev pub Earlier : ℤ → ℕ → ℤ → ℕ → Type 0
Earlier a m b n = (a <ℤ b) ⊎ ((a ≡ b) × (m < n))

before-true : (a b : ℤ) (m n : ℕ) → before a m b n ≡ true → Earlier a m b n
before-true a b m n h =
    ⊎_elim (λ (lt : int_lt a b ≡ true). inl (int_lt-true a b lt))
    (λ (both : (int_eq a b && nat_lt m n) ≡ true).
    let parts = and_parts (int_eq a b) (nat_lt m n) both in
    inr ((Decides-int_eq a b).0 parts.0, ltb-true m n parts.1))
    (or_cases (int_lt a b) (int_eq a b && nat_lt m n) h)

true-before : (a b : ℤ) (m n : ℕ) → Earlier a m b n → before a m b n ≡ true
true-before a b m n h =
    ⊎_elim (λ (lt : a <ℤ b). or_left (int_lt a b) (int_eq a b && nat_lt m n) (lt-int_lt a b lt))
    (λ (both : (a ≡ b) × (m < n)).
    or_right (int_lt a b) (int_eq a b && nat_lt m n)
    (and_from (int_eq a b) (nat_lt m n) ((Decides-int_eq a b).1 both.0) (lt-ltb m n both.1)))
    h

earlier_asym : (a b : ℤ) (m n : ℕ) → Earlier a m b n → Earlier b n a m → ⊥
earlier_asym a b m n first second =
    ⊎_elim
    (λ (lt : a <ℤ b). ⊎_elim (λ (gt : b <ℤ a). omega (arith, ints)) (λ (same : (b ≡ a) × (n < m)). omega (arith, ints, same.0)) second)
    (λ (same : (a ≡ b) × (m < n)). ⊎_elim (λ (gt : b <ℤ a). omega (arith, ints, same.0)) (λ (other : (b ≡ a) × (n < m)). omega (arith, same.1, other.1)) second)
    first

earlier_trans : (a b c : ℤ) (m n k : ℕ) → Earlier a m b n → Earlier b n c k → Earlier a m c k
earlier_trans a b c m n k first second =
    ⊎_elim
    (λ (lt : a <ℤ b). ⊎_elim (λ (lt' : b <ℤ c). inl (omega (arith, ints))) (λ (same : (b ≡ c) × (n < k)). inl (omega (arith, ints, same.0))) second)
    (λ (same : (a ≡ b) × (m < n)).
    ⊎_elim (λ (lt' : b <ℤ c). inl (omega (arith, ints, same.0)))
    (λ (other : (b ≡ c) × (n < k)). inr (same.0 ∙ other.0, omega (arith, same.1, other.1))) second)
    first

-- an occurrence precedes another where its nominal second is less, or the same and its line is
pub precedes-true : (x y : Occurrence) → precedes x y ≡ true → Earlier (nominal_of x) x.rule.line (nominal_of y) y.rule.line
precedes-true x y h = before-true (nominal_of x) (nominal_of y) x.rule.line y.rule.line h

pub true-precedes : (x y : Occurrence) → Earlier (nominal_of x) x.rule.line (nominal_of y) y.rule.line → precedes x y ≡ true
true-precedes x y h = true-before (nominal_of x) (nominal_of y) x.rule.line y.rule.line h

pub precedes_asym : (x y : Occurrence) → precedes x y ≡ true → precedes y x ≡ false
precedes_asym x y h =
    false_from_ne_true (precedes y x)
    (λ other. earlier_asym (nominal_of x) (nominal_of y) x.rule.line y.rule.line (precedes-true x y h) (precedes-true y x other))

pub precedes_trans : (x y z : Occurrence) → precedes x y ≡ true → precedes y z ≡ true → precedes x z ≡ true
precedes_trans x y z first second =
    true-precedes x z
    (earlier_trans (nominal_of x) (nominal_of y) (nominal_of z) x.rule.line y.rule.line z.rule.line (precedes-true x y first) (precedes-true y z second))

-- what doesn't precede a later one doesn't precede an earlier one
precedes_lower : (x y z : Occurrence) → precedes y z ≡ true → precedes x z ≡ false → precedes x y ≡ false
precedes_lower x y z below not_below =
    false_from_ne_true (precedes x y) (λ other. not_both (precedes x z) (precedes_trans x y z other below) not_below)

put-here : (x next : Occurrence) (later : List Occurrence) → precedes x next ≡ true → put_in_order x (next ∷ later) ≡ x ∷ next ∷ later
put-here x next later h = cond-true (precedes x next) (x ∷ next ∷ later) (next ∷ put_in_order x later) h

put-later : (x next : Occurrence) (later : List Occurrence) → precedes x next ≡ false → put_in_order x (next ∷ later) ≡ next ∷ put_in_order x later
put-later x next later h = cond-false (precedes x next) (x ∷ next ∷ later) (next ∷ put_in_order x later) h

-- what stands in the list after one is put into it
pub In-put_back : (x : Occurrence) (list : List Occurrence) (y : Occurrence) → In y (put_in_order x list) → (x ≡ y) ⊎ In y list
In-put_back x [] y has = has
In-put_back x (next ∷ later) y has =
    by_test (precedes x next) (λ here. let has' : In y (x ∷ next ∷ later) = rw (put-here x next later here) at has in has')
    (λ there.
    let has' : In y (next ∷ put_in_order x later) = rw (put-later x next later there) at has in
    ⊎_elim (λ (same : next ≡ y). inr (inl same))
    (λ (rest : In y (put_in_order x later)). ⊎_elim (λ (same : x ≡ y). inl same) (λ (old : In y later). inr (inr old)) (In-put_back x later y rest))
    has')

pub In-put : (x : Occurrence) (list : List Occurrence) (y : Occurrence) → (x ≡ y) ⊎ In y list → In y (put_in_order x list)
In-put x [] y has = has
In-put x (next ∷ later) y has =
    by_test (precedes x next) (λ here. rw (put-here x next later here) has)
    (λ there.
    rw (put-later x next later there)
    (⊎_elim (λ (same : x ≡ y). inr (In-put x later y (inl same)))
    (λ (old : In y (next ∷ later)). ⊎_elim (λ (same : next ≡ y). inl same) (λ (rest : In y later). inr (In-put x later y (inr rest))) old)
    has))

pub In-in_order_back : (list : List Occurrence) (y : Occurrence) → In y (in_order list) → In y list
In-in_order_back [] y has = has
In-in_order_back (x ∷ others) y has =
    ⊎_elim (λ (same : x ≡ y). inl same) (λ (rest : In y (in_order others)). inr (In-in_order_back others y rest))
    (In-put_back x (in_order others) y has)

pub In-in_order : (list : List Occurrence) (y : Occurrence) → In y list → In y (in_order list)
In-in_order [] y has = has
In-in_order (x ∷ others) y has =
    In-put x (in_order others) y
    (⊎_elim (λ (same : x ≡ y). inl same) (λ (rest : In y others). inr (In-in_order others y rest)) has)

-- a later one does not precede
abbrev pub NotAfter : Occurrence → Occurrence → Type 0
NotAfter x y = precedes y x ≡ false

pub put_ordered : (x : Occurrence) (list : List Occurrence) → Pairs NotAfter list → Pairs NotAfter (put_in_order x list)
put_ordered x [] pairs = (λ y has. absurd has, tt)
put_ordered x (next ∷ later) pairs =
    by_test (precedes x next)
    (λ here.
    rw (put-here x next later here) (
      λ y has.
          ⊎_elim (λ (same : next ≡ y). rw (← same) (precedes_asym x next here))
          (λ (rest : In y later). precedes_lower y x next here (pairs.0 y rest))
          has,
      pairs,
    ))
    (λ there.
    rw (put-later x next later there) (
      λ y has.
          ⊎_elim (λ (same : x ≡ y). rw (← same) there) (λ (rest : In y later). pairs.0 y rest) (In-put_back x later y has),
      put_ordered x later pairs.1,
    ))

pub in_order_ordered : (list : List Occurrence) → Pairs NotAfter (in_order list)
in_order_ordered [] = tt
in_order_ordered (x ∷ others) = put_ordered x (in_order others) (in_order_ordered others)

-- one of the two precedes the other
abbrev pub Differs : Occurrence → Occurrence → Type 0
Differs x y = (precedes x y ≡ true) ⊎ (precedes y x ≡ true)

differs_sym : (x y : Occurrence) → Differs x y → Differs y x
differs_sym x y h = ⊎_elim (λ (first : precedes x y ≡ true). inr first) (λ (second : precedes y x ≡ true). inl second) h

pub put_differs : (x : Occurrence) (list : List Occurrence) → ((y : Occurrence) → In y list → Differs x y) → Pairs Differs list → Pairs Differs (put_in_order x list)
put_differs x [] apart pairs = (λ y has. absurd has, tt)
put_differs x (next ∷ later) apart pairs =
    by_test (precedes x next) (λ here. rw (put-here x next later here) (apart, pairs))
    (λ there.
    rw (put-later x next later there) (
      λ y has.
          ⊎_elim (λ (same : x ≡ y). rw (← same) (differs_sym x next (apart next (inl refl)))) (λ (rest : In y later). pairs.0 y rest) (In-put_back x later y has),
      put_differs x later (λ y rest. apart y (inr rest)) pairs.1,
    ))

pub in_order_differs : (list : List Occurrence) → Pairs Differs list → Pairs Differs (in_order list)
in_order_differs [] pairs = tt
in_order_differs (x ∷ others) pairs =
    put_differs x (in_order others) (λ y has. pairs.0 y (In-in_order_back others y has)) (in_order_differs others pairs.1)

-- in order and each different from each: strictly in order
pub strictly : (list : List Occurrence) (place later : ℕ) (x y : Occurrence) → Pairs NotAfter list → Pairs Differs list → place < later → slice_get list place ≡ Some x → slice_get list later ≡ Some y → precedes x y ≡ true
strictly list place later x y ordered apart before_it here there =
    ⊎_elim (λ (first : precedes x y ≡ true). first)
    (λ (second : precedes y x ≡ true). not_both (precedes y x) second (Pairs-get NotAfter list place later x y ordered before_it here there))
    (Pairs-get Differs list place later x y apart before_it here there)
