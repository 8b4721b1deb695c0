-- Lists that are sorted by names that differ.
use Rattle.std.proofs.Common.{◌≡◌, ◌≢◌, ℕ, suc, ◌+◌, ◌<◌, ◌≤◌, Bool, true, false, cond, eqb, IsTrue, List, [], ◌∷◌, length, map, get_or, ⊎_elim, refl, sym, ap, ◌∙◌, arith}
use Rattle.std.proofs.lemmas.Bool.{and_from, cases_lt}
use Rattle.std.proofs.lemmas.Bool.Decides.{nat_tests}
use Rattle.std.specs.List.{AllPairs, swap}
use Rattle.std.specs.List.Sorted.{IsPermutation, IsSortedBy}
use Rattle.std.specs.Ordering.{is_lt}
use Rattle.std.proofs.lemmas.List.{get_or-map, length-map}
use Rattle.std.proofs.lemmas.List.Edits.{Swapped, swapped_from_swap}
use Rattle.std.proofs.lemmas.List.Sorted.{IsPermutation-keeps, IsPermutation-swap, length_permutation}
use Rattle.std.proofs.lemmas.Slice.Eq.{bytes_eq-Decides}
use Rattle.tz_types.specs.Order.{ascends, ascends_after, name_before}
use Rattle.tz_specs.specs.Value.{is_exactly}
use Rattle.tz_database.proofs.NameOrder.{compared, before_other}

-- the place where a swap takes an element from
abbrev taken_from : ℕ → ℕ → ℕ → ℕ
taken_from a b k = cond (eqb k a) b (cond (eqb k b) a k)

taken_apart : (a b i j : ℕ) → taken_from a b i ≡ taken_from a b j → i ≡ j
taken_apart a b i j same = grind (arith, nat_tests)

taken_within : (a b k count : ℕ) → a < count → b < count → k < count → taken_from a b k < count
taken_within a b k count a_in b_in k_in = grind (arith, nat_tests)

module _ {X : Type 0} (key : X → List ℕ) where
  -- elements at two places differ by their names
  pub record Apart (xs : List X) : Type 0 where
    pub at : (i j : ℕ) (d : X) → i < length xs → j < length xs → key (get_or xs i d) ≡ key (get_or xs j d) → i ≡ j

  taken : (xs ys : List X) (a b k : ℕ) (d : X) → Swapped (λ i. get_or xs i d) (λ i. get_or ys i d) a b → get_or ys k d ≡ get_or xs (taken_from a b k) d
  taken xs ys a b k d is = by_place (eqb k a) (eqb k b) refl refl
    where
      by_place : (first second : Bool) → eqb k a ≡ first → eqb k b ≡ second → get_or ys k d ≡ get_or xs (cond first b (cond second a k)) d
      by_place true second e f = (let same : k ≡ a = grind (arith, nat_tests) in rw same is.0)
      by_place false true e f = (let same : k ≡ b = grind (arith, nat_tests) in rw same is.1)
      by_place false false e f = is.2 k (λ same. grind (arith, nat_tests)) (λ same. grind (arith, nat_tests))

  apart_swapped : (xs : List X) (a b : ℕ) → a < length xs → b < length xs → Apart xs → Apart (swap xs a b)
  apart_swapped xs a b a_in b_in apart = record {
    at = λ i j d i_in j_in same.
        let total = length_permutation xs (swap xs a b) (IsPermutation-swap xs (swap xs a b) a b a_in b_in refl) in
        let moved = swapped_from_swap xs (swap xs a b) a b d a_in b_in refl in
        taken_apart a b i j (apart.at (taken_from a b i) (taken_from a b j) d (taken_within a b i (length xs) a_in b_in (omega arith)) (taken_within a b j (length xs) a_in b_in (omega arith)) (ap key (sym (taken xs (swap xs a b) a b i d moved)) ∙ same ∙ ap key (taken xs (swap xs a b) a b j d moved)));
  }

  apart_permuted : (xs ys : List X) → IsPermutation xs ys → Apart xs → Apart ys
  apart_permuted xs ys same apart =
      IsPermutation-keeps xs Apart apart apart_swapped ys same

  apart_from : (xs : List X) → AllPairs ◌≢◌ (map key xs) → Apart xs
  apart_from xs differ = record {
    at = λ i j d i_in j_in same.
        let total : length (map key xs) ≡ length xs = length-map xs key in
        let at_i : get_or (map key xs) i (key d) ≡ key (get_or xs i d) = get_or-map key xs i d (key d) i_in in
        let at_j : get_or (map key xs) j (key d) ≡ key (get_or xs j d) = get_or-map key xs j d (key d) j_in in
        ⊎_elim
        (λ (less : i < j). absurd (differ i j (key d) less (omega arith) (at_i ∙ same ∙ sym at_j)))
        (λ (rest : j ≤ i).
        ⊎_elim
        (λ (less : j < i). absurd (differ j i (key d) less (omega arith) (at_j ∙ sym same ∙ sym at_i)))
        (λ (other : i ≤ j). omega (arith, rest, other))
        (cases_lt j i))
        (cases_lt i j);
  }

  abbrev Sorted : List X → Type 0
  Sorted xs = IsSortedBy (λ a b. is_lt (compared (key a) (key b))) xs

  sorted_tail : (x : X) (xs : List X) → Sorted (x ∷ xs) → Sorted xs
  sorted_tail x xs sorted k d low within =
      let next : suc k + 1 ≡ suc (k + 1) = omega arith in
      rw next at (sorted (suc k) d (omega arith) (omega arith))

  apart_tail : (x : X) (xs : List X) → Apart (x ∷ xs) → Apart xs
  apart_tail x xs apart = record { at = λ i j d i_in j_in same. (let next = apart.at (suc i) (suc j) d (omega arith) (omega arith) same in omega arith) }

  differs : (a b : List ℕ) → (a ≡ b → ⊥) → is_exactly a b ≡ false
  differs a b never = by_test (is_exactly a b) refl
    where
      by_test : (same : Bool) → is_exactly a b ≡ same → same ≡ false
      by_test true e = absurd (never ((bytes_eq-Decides a b).0 e))
      by_test false e = refl

  before_next : (x y : X) (xs : List X) → Sorted (x ∷ y ∷ xs) → Apart (x ∷ y ∷ xs) → name_before (key x) (key y) ≡ true
  before_next x y xs sorted apart =
      let never : key x ≡ key y → ⊥ = λ same. (let none = apart.at 0 1 x (omega arith) (omega arith) same in omega arith) in
      before_other (key x) (key y) (differs (key x) (key y) never) (sorted 0 x (omega arith) (omega arith))

  ascends_from : (x : X) (xs : List X) → Sorted (x ∷ xs) → Apart (x ∷ xs) → IsTrue (ascends_after name_before (key x) (map key xs))
  ascends_from x [] sorted apart = refl
  ascends_from x (y ∷ xs) sorted apart =
      and_from (name_before (key x) (key y)) (ascends_after name_before (key y) (map key xs)) (before_next x y xs sorted apart) (ascends_from y xs (sorted_tail x (y ∷ xs) sorted) (apart_tail x (y ∷ xs) apart))

  ascends_all : (xs : List X) → Sorted xs → Apart xs → IsTrue (ascends name_before (map key xs))
  ascends_all [] sorted apart = refl
  ascends_all (x ∷ xs) sorted apart = ascends_from x xs sorted apart

  -- the names of what was sorted by them ascend
  pub ascends_sorted : (xs ys : List X) → AllPairs ◌≢◌ (map key xs) → IsPermutation xs ys → IsSortedBy (λ a b. is_lt (compared (key a) (key b))) ys → IsTrue (ascends name_before (map key ys))
  ascends_sorted xs ys differ same sorted =
      ascends_all ys sorted (apart_permuted xs ys same (apart_from xs differ))
