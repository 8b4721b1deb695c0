-- Occurrences sorted by their keys, no two of them the same, stand strictly in order.
use Rattle.std.proofs.Common.{◌≡◌, ℕ, suc, ◌+◌, ◌<◌, true, ◌⊎◌, inl, inr, ⊎_elim, refl, sym, subst, ◌∙◌, arith, List, [], ◌∷◌, length, get_or, Some, ℤ}
use Rattle.std.specs.Prelude.{slice_get, int_lt, nat_lt, ◌||◌, ◌&&◌, ◌==◌}
use Rattle.std.specs.Ordering.{int_eq, int_cmp, nat_cmp, is_lt, ordering_then}
use Rattle.std.specs.List.{swap}
use Rattle.std.specs.List.Sorted.{IsPermutation}
use Rattle.std.proofs.lemmas.Bool.{cases_order}
use Rattle.std.proofs.lemmas.Option.{same_Some, slice_get-get_or}
use Rattle.std.proofs.lemmas.List.Sorted.{IsPermutation-keeps}
use Rattle.std.proofs.lemmas.List.Edits.{swapped_from_swap, length-swap}
use Rattle.tz_specs.specs.Occurrence.{Occurrence, precedes}
use Rattle.tz_specs.proofs.Tests.{by_test, not_both}
use Rattle.tz_specs.proofs.ListLemmas.{In, Pairs, Pairs-get}
use Rattle.tz_specs.proofs.OrderLemmas.{Differs, precedes_asym, precedes_trans}
use Rattle.tz_expand.specs.Looks.{AreInOrder}

abbrev pub Before : Occurrence → Occurrence → Type 0
Before x y = precedes x y ≡ true

-- to compare keys is to precede
pub is_lt-keys : (a b : ℤ) (m n : ℕ) → is_lt (ordering_then (int_cmp a b) (nat_cmp m n)) ≡ (int_lt a b || (int_eq a b && nat_lt m n))
is_lt-keys a b m n =
    by_test (int_lt a b) (λ t. rw t refl)
    (λ f. by_test (int_lt b a) (λ g. rw (f, g) refl)
    (λ g. by_test (nat_lt m n) (λ t. rw (f, g, t) refl)
    (λ t. by_test (m == n) (λ e. rw (f, g, t, e) refl) (λ e. rw (f, g, t, e) refl))))

-- elements at different places differ
abbrev pub Apart : List Occurrence → Type 0
Apart xs = (i j : ℕ) (d : Occurrence) → i < length xs → j < length xs → (i ≡ j → ⊥) → Differs (get_or xs i d) (get_or xs j d)

differs_back : (x y : Occurrence) → Differs x y → Differs y x
differs_back x y h = ⊎_elim (λ (first : precedes x y ≡ true). inr first) (λ (second : precedes y x ≡ true). inl second) h

pub apart_from_pairs : (xs : List Occurrence) → Pairs Differs xs → Apart xs
apart_from_pairs xs pairs i j d first second other =
    ⊎_elim (λ (same : i ≡ j). absurd (other same))
    (⊎_elim (λ (lt : i < j). Pairs-get Differs xs i j (get_or xs i d) (get_or xs j d) pairs lt (slice_get-get_or xs i d first) (slice_get-get_or xs j d second))
    (λ (gt : j < i). differs_back (get_or xs j d) (get_or xs i d) (Pairs-get Differs xs j i (get_or xs j d) (get_or xs i d) pairs gt (slice_get-get_or xs j d second) (slice_get-get_or xs i d first))))
    (cases_order i j)

same_or_not : (i j : ℕ) → (i ≡ j) ⊎ (i ≡ j → ⊥)
same_or_not i j =
    ⊎_elim (λ (same : i ≡ j). inl same)
    (⊎_elim (λ (lt : i < j). inr (λ e. omega arith)) (λ (gt : j < i). inr (λ e. omega arith)))
    (cases_order i j)

-- where an element of a list stood before two were exchanged
abbrev Origin : ℕ → ℕ → ℕ → ℕ → Type 0
Origin a b i k = ((i ≡ a) × (k ≡ b)) ⊎ (((i ≡ b) × (k ≡ a)) ⊎ ((i ≡ a → ⊥) × (i ≡ b → ⊥) × (k ≡ i)))

origin : (xs : List Occurrence) (a b i : ℕ) (d : Occurrence) → a < length xs → b < length xs → i < length xs → (k : ℕ) × (k < length xs) × (get_or (swap xs a b) i d ≡ get_or xs k d) × Origin a b i k
origin xs a b i d a_in b_in within =
    let swapped = swapped_from_swap xs (swap xs a b) a b d a_in b_in refl in
    ⊎_elim (λ (same : i ≡ a). (b, b_in, rw same swapped.0, inl (same, refl)))
    (λ (not_a : i ≡ a → ⊥).
    ⊎_elim (λ (same : i ≡ b). (a, a_in, rw same swapped.1, inr (inl (same, refl))))
    (λ (not_b : i ≡ b → ⊥). (i, within, swapped.2 i not_a not_b, inr (inr (not_a, not_b, refl))))
    (same_or_not i b))
    (same_or_not i a)

origin_once : (a b i j k : ℕ) → Origin a b i k → Origin a b j k → i ≡ j
origin_once a b i j k first second =
    ⊎_elim
    (λ (x : (i ≡ a) × (k ≡ b)).
    ⊎_elim (λ (y : (j ≡ a) × (k ≡ b)). x.0 ∙ sym y.0)
    (⊎_elim (λ (y : (j ≡ b) × (k ≡ a)). x.0 ∙ sym y.1 ∙ x.1 ∙ sym y.0)
    (λ (y : (j ≡ a → ⊥) × (j ≡ b → ⊥) × (k ≡ j)). absurd (y.1 (sym y.2 ∙ x.1)))) second)
    (⊎_elim
    (λ (x : (i ≡ b) × (k ≡ a)).
    ⊎_elim (λ (y : (j ≡ a) × (k ≡ b)). x.0 ∙ sym y.1 ∙ x.1 ∙ sym y.0)
    (⊎_elim (λ (y : (j ≡ b) × (k ≡ a)). x.0 ∙ sym y.0)
    (λ (y : (j ≡ a → ⊥) × (j ≡ b → ⊥) × (k ≡ j)). absurd (y.0 (sym y.2 ∙ x.1)))) second)
    (λ (x : (i ≡ a → ⊥) × (i ≡ b → ⊥) × (k ≡ i)).
    ⊎_elim (λ (y : (j ≡ a) × (k ≡ b)). absurd (x.1 (sym x.2 ∙ y.1)))
    (⊎_elim (λ (y : (j ≡ b) × (k ≡ a)). absurd (x.0 (sym x.2 ∙ y.1)))
    (λ (y : (j ≡ a → ⊥) × (j ≡ b → ⊥) × (k ≡ j)). sym x.2 ∙ y.2)) second))
    first

apart_swapped : (xs : List Occurrence) (a b : ℕ) → a < length xs → b < length xs → Apart xs → Apart (swap xs a b)
apart_swapped xs a b a_in b_in apart i j d first second other =
    let long = length-swap xs a b in
    let from = origin xs a b i d a_in b_in (omega arith) in
    let to = origin xs a b j d a_in b_in (omega arith) in
    let differs : Differs (get_or xs from.0 d) (get_or xs to.0 d) = apart from.0 to.0 d from.1 to.1 (λ same. other (origin_once a b i j from.0 from.3 (rw same to.3))) in
    rw (from.2, to.2) differs

pub apart_in_order : (xs ys : List Occurrence) → IsPermutation xs ys → Apart xs → Apart ys
apart_in_order xs ys same apart =
    IsPermutation-keeps xs Apart apart (λ l i j i_in j_in so_far. apart_swapped l i j i_in j_in so_far) ys same

-- each before the next: each before all later ones
pub pairs_from_adjacent : (xs : List Occurrence) → ((k : ℕ) (d : Occurrence) → k + 1 < length xs → Before (get_or xs k d) (get_or xs (k + 1) d)) → Pairs Before xs
pairs_from_adjacent [] each = tt
pairs_from_adjacent (x ∷ []) each = (λ y has. absurd has, tt)
pairs_from_adjacent (x ∷ y ∷ ys) each =
    let next : Before x y = each 0 x (omega arith) in
    let rest = pairs_from_adjacent (y ∷ ys) (λ k d within. let more : suc k + 1 ≡ suc (k + 1) = omega arith in rw more at (each (suc k) d (omega arith))) in (
      λ z has.
          ⊎_elim (λ (same : y ≡ z). subst (Before x) same next) (λ (later : In z ys). precedes_trans x y z next (rest.0 z later)) has,
      rest,
    )

pub strict_from_sorted : (found list : List Occurrence) → Pairs Differs found → AreInOrder found list → Pairs Before list
strict_from_sorted found list differ in_order =
    let apart = apart_in_order found list in_order.same (apart_from_pairs found differ) in
    pairs_from_adjacent list
    (λ k d within.
    ⊎_elim (λ (first : precedes (get_or list k d) (get_or list (k + 1) d) ≡ true). first)
    (λ (second : precedes (get_or list (k + 1) d) (get_or list k d) ≡ true). not_both (precedes (get_or list (k + 1) d) (get_or list k d)) second (in_order.sorted k d (omega arith) within))
    (apart k (k + 1) d (omega arith) within (λ e. omega arith)))

-- to precede is to stand earlier
pub place_before : (xs : List Occurrence) (i j : ℕ) (x y : Occurrence) → Pairs Before xs → slice_get xs i ≡ Some x → slice_get xs j ≡ Some y → Before x y → i < j
place_before xs i j x y order here there before =
    ⊎_elim
    (λ (same : i ≡ j).
    let again : slice_get xs i ≡ Some y = rw same there in
    let equal : x ≡ y = same_Some x y (sym here ∙ again) in
    let itself : precedes x x ≡ true = rw (← equal) at before in
    not_both (precedes x x) itself (precedes_asym x x itself))
    (⊎_elim (λ (lt : i < j). lt)
    (λ (gt : j < i). not_both (precedes y x) (Pairs-get Before xs j i y x order gt there here) (precedes_asym x y before)))
    (cases_order i j)
