-- Lists that ascend by a name are fixed by their elements.
use Rattle.std.proofs.Common.{◌≡◌, ℕ, zero, suc, ◌⊎◌, inl, inr, Bool, true, false, ◌&&◌, IsTrue, List, [], ◌∷◌, map, Some, slice_get, refl, sym, ap, ◌∙◌, ⊎_elim, arith, subst}
use Rattle.std.specs.List.{Contains}
use Rattle.std.specs.Ordering.{nat_cmp, is_lt, ordering_reverse}
use Rattle.std.specs.declared.cmp.Ordering.{Ordering}
use Rattle.std.specs.declared.cmp.Ordering.TheVariants.{Less, Equal, Greater}
use Rattle.std.specs.Cmp.Lexicographic.{slice_cmp}
use Rattle.std.proofs.lemmas.Cmp.{nat_list_cmp_total}
use Rattle.tz_types.specs.Order.{ascends, ascends_after, name_before}

less : (order : Ordering) → IsTrue (is_lt order) → order ≡ Less
less Less h = refl
less Equal h = cc
less Greater h = cc

not_less : (order : Ordering) → order ≡ ordering_reverse order → order ≡ Less → ⊥
not_less Less h is = cc
not_less Equal h is = cc
not_less Greater h is = cc

-- no name comes before itself
pub never_before_itself : (a : List ℕ) → IsTrue (name_before a a) → ⊥
never_before_itself a h =
    not_less (slice_cmp nat_cmp a a) (nat_list_cmp_total.antisymm a a) (less (slice_cmp nat_cmp a a) h)

pub before_later : (a b c : List ℕ) → IsTrue (name_before a b) → IsTrue (name_before b c) → IsTrue (name_before a c)
before_later a b c first second =
    let is = nat_list_cmp_total.trans a b c (less (slice_cmp nat_cmp a b) first) (less (slice_cmp nat_cmp b c) second) in
    rw is refl

pub both_hold : (a b : Bool) → IsTrue (a && b) → IsTrue a × IsTrue b
both_hold true true h = (refl, refl)
both_hold true false h = cc
both_hold false b h = cc

pub first_or_later : {X : Type 0} (x z : X) (xs : List X) → Contains (x ∷ xs) z → (x ≡ z) ⊎ Contains xs z
first_or_later x z xs (zero, below, is) = inl is
first_or_later x z xs (suc place, below, is) = inr (place, omega (arith, below), is)

pub is_first : {X : Type 0} (x : X) (xs : List X) → Contains (x ∷ xs) x
is_first x xs = (zero, omega arith, refl)

pub is_later : {X : Type 0} (x z : X) (xs : List X) → Contains xs z → Contains (x ∷ xs) z
is_later x z xs h = (suc h.0, omega (arith, h.1), h.2)

pub never_in_none : {X : Type 0} (z : X) → Contains [] z → ⊥
never_in_none z h = let below = h.1 in absurd (omega (arith, below))

-- a name before the first of ascending ones is before all
pub before_all : {X : Type 0} (key : X → List ℕ) (x : X) (xs : List X) → IsTrue (ascends_after name_before (key x) (map key xs)) → (z : X) → Contains xs z → IsTrue (name_before (key x) (key z))
before_all key x [] h z is = absurd (never_in_none z is)
before_all key x (y ∷ ys) h z is =
    let both = both_hold (name_before (key x) (key y)) (ascends_after name_before (key y) (map key ys)) h in
    ⊎_elim (λ (same : y ≡ z). subst (λ it. IsTrue (name_before (key x) (key it))) same both.0)
    (λ (later : Contains ys z). before_later (key x) (key y) (key z) both.0 (before_all key y ys both.1 z later))
    (first_or_later y z ys is)

pub ascends_later : {X : Type 0} (key : X → List ℕ) (x : X) (xs : List X) → IsTrue (ascends_after name_before (key x) (map key xs)) → IsTrue (ascends name_before (map key xs))
ascends_later key x [] h = refl
ascends_later key x (y ∷ ys) h = (both_hold (name_before (key x) (key y)) (ascends_after name_before (key y) (map key ys)) h).1

same_first : {X : Type 0} (key : X → List ℕ) (x y : X) (xs ys : List X) → IsTrue (ascends_after name_before (key x) (map key xs)) → IsTrue (ascends_after name_before (key y) (map key ys)) → Contains (y ∷ ys) x → Contains (x ∷ xs) y → x ≡ y
same_first key x y xs ys first second here there =
    ⊎_elim (λ (same : y ≡ x). sym same)
    (λ (later : Contains ys x).
    ⊎_elim (λ (same : x ≡ y). same)
    (λ (also : Contains xs y).
    absurd (never_before_itself (key x) (before_later (key x) (key y) (key x) (before_all key x xs first y also) (before_all key y ys second x later))))
    (first_or_later x y xs there))
    (first_or_later y x ys here)

in_rest : {X : Type 0} (key : X → List ℕ) (x y : X) (xs ys : List X) → x ≡ y → IsTrue (ascends_after name_before (key x) (map key xs)) → ((z : X) → Contains (x ∷ xs) z → Contains (y ∷ ys) z) → (z : X) → Contains xs z → Contains ys z
in_rest key x y xs ys same ascend into z is =
    ⊎_elim (λ (first : y ≡ z).
    absurd (never_before_itself (key x) (subst (λ it. IsTrue (name_before (key x) (key it))) (sym (same ∙ first)) (before_all key x xs ascend z is))))
    (λ (later : Contains ys z). later)
    (first_or_later y z ys (into z (is_later x z xs is)))

-- two lists that ascend and have the same elements are one
pub same_ascending : {X : Type 0} (key : X → List ℕ) (xs ys : List X) → IsTrue (ascends name_before (map key xs)) → IsTrue (ascends name_before (map key ys)) → ((z : X) → Contains xs z → Contains ys z) → ((z : X) → Contains ys z → Contains xs z) → xs ≡ ys
same_ascending key [] [] first second into back = refl
same_ascending key [] (y ∷ ys) first second into back = absurd (never_in_none y (back y (is_first y ys)))
same_ascending key (x ∷ xs) [] first second into back = absurd (never_in_none x (into x (is_first x xs)))
same_ascending key (x ∷ xs) (y ∷ ys) first second into back =
    let same = same_first key x y xs ys first second (into x (is_first x xs)) (back y (is_first y ys)) in
    let rest = same_ascending key xs ys (ascends_later key x xs first) (ascends_later key y ys second) (in_rest key x y xs ys same first into) (in_rest key y x ys xs (sym same) second back) in
    λ i. same i ∷ rest i

place_in : {X : Type 0} (names : List X) (place : ℕ) (name : X) → slice_get names place ≡ Some name → Contains names name
place_in [] place name h = cc
place_in (x ∷ names) zero name h = (zero, omega arith, let same : x ≡ name = cc in same)
place_in (x ∷ names) (suc place) name h = is_later x name names (place_in names place name h)

-- each of ascending names has one place
pub one_place : (names : List (List ℕ)) (one other : ℕ) (name : List ℕ) → IsTrue (ascends name_before (map (λ x. x) names)) → slice_get names one ≡ Some name → slice_get names other ≡ Some name → one ≡ other
one_place [] one other name ascend first second = cc
one_place (x ∷ names) zero zero name ascend first second = refl
one_place (x ∷ names) zero (suc other) name ascend first second =
    let is : x ≡ name = cc in
    absurd (never_before_itself x (subst (λ it. IsTrue (name_before x it)) (sym is) (before_all (λ x. x) x names ascend name (place_in names other name second))))
one_place (x ∷ names) (suc one) zero name ascend first second =
    let is : x ≡ name = cc in
    absurd (never_before_itself x (subst (λ it. IsTrue (name_before x it)) (sym is) (before_all (λ x. x) x names ascend name (place_in names one name first))))
one_place (x ∷ names) (suc one) (suc other) name ascend first second =
    ap suc (one_place names one other name (ascends_later (λ x. x) x names ascend) first second)
