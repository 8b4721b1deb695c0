-- Names that ascend: the place that a binary search finds, and what stands there.
use Rattle.std.proofs.Common.{◌≡◌, ℕ, zero, suc, ◌+◌, ◌<◌, ◌≤◌, true, false, nat_eq, List, [], ◌∷◌, length, map, get_or, Result, Ok, Err, refl, sym, ap, ◌∙◌, arith}
use Rattle.std.proofs.lemmas.Bool.{and_parts}
use Rattle.std.specs.Ordering.{nat_cmp, is_lt, is_eq, is_gt, ordering_reverse, ordering_index}
use Rattle.std.specs.declared.cmp.Ordering.{Ordering}
use Rattle.std.specs.declared.cmp.Ordering.TheVariants.{Less, Equal, Greater}
use Rattle.std.specs.Cmp.Lexicographic.{slice_cmp, pointwise}
use Rattle.std.specs.List.{AllWithin, HoldsAt}
use Rattle.std.specs.List.Sorted.{IsSortedBy, IsNonDecreasingBy, IsSearchInRange, IsBinarySearchResult}
use Rattle.std.proofs.lemmas.Cmp.{nat_list_cmp_total, same_from_slice_cmp}
use Rattle.std.proofs.lemmas.Bool.Decides.{nat_tests}
use Rattle.std.proofs.lemmas.List.Sorted.{searchable_from_sorted}
use Rattle.tz_types.specs.Order.{ascends, ascends_after, name_before}
use Rattle.tz_specs.specs.Value.{is_exactly}
use Rattle.tz_database.specs.NamePlace.{name_place, one_later}
use Rattle.tz_database.proofs.Ascending.{rest_ascends}

-- how two names compare
abbrev pub compared : List ℕ → List ℕ → Ordering
compared a b = slice_cmp nat_cmp a b

-- the same name, and a later one, by how they compare

exact_is : (a b : List ℕ) → is_eq (compared a b) ≡ is_exactly a b
exact_is a b =
    same_from_slice_cmp nat_cmp is_eq (pointwise nat_eq) refl (λ _ _. refl) (λ _ _. refl) (λ x y xs ys o h. grind (arith, nat_tests)) a b (compared a b) refl

reversed : (o : Ordering) → is_lt (ordering_reverse o) ≡ is_gt o
reversed Less = refl
reversed Equal = refl
reversed Greater = refl

before_is : (a b : List ℕ) → name_before a b ≡ is_gt (compared b a)
before_is a b = ap is_lt (nat_list_cmp_total.antisymm a b) ∙ reversed (compared b a)

-- what follows from how a name compares with the first

place_less : (name other : List ℕ) (names : List (List ℕ)) → compared other name ≡ Less → name_place name (other ∷ names) ≡ one_later (name_place name names)
unfolding name_place
place_less name other names e =
    let differs : is_exactly other name ≡ false = sym (exact_is other name) ∙ ap is_eq e in
    let later : name_before name other ≡ false = before_is name other ∙ ap is_gt e in
    rw differs (rw later refl)

place_equal : (name other : List ℕ) (names : List (List ℕ)) → compared other name ≡ Equal → name_place name (other ∷ names) ≡ Ok 0
unfolding name_place
place_equal name other names e =
    let same : is_exactly other name ≡ true = sym (exact_is other name) ∙ ap is_eq e in
    rw same refl

place_greater : (name other : List ℕ) (names : List (List ℕ)) → compared other name ≡ Greater → name_place name (other ∷ names) ≡ Err 0
unfolding name_place
place_greater name other names e =
    let differs : is_exactly other name ≡ false = sym (exact_is other name) ∙ ap is_eq e in
    let later : name_before name other ≡ true = before_is name other ∙ ap is_gt e in
    rw differs (rw later refl)

place_none : (name : List ℕ) → name_place name [] ≡ Err 0
unfolding name_place
place_none name = refl

-- each name stands before all later ones

by_less : (o : Ordering) → is_lt o ≡ true → o ≡ Less
by_less Less h = refl
by_less Equal h = cc
by_less Greater h = cc

pub before_trans : (a b c : List ℕ) → name_before a b ≡ true → name_before b c ≡ true → name_before a c ≡ true
before_trans a b c h k =
    ap is_lt (nat_list_cmp_total.trans a b c (by_less (compared a b) h) (by_less (compared b c) k))

pub differs_before : (a b : List ℕ) → name_before a b ≡ true → is_exactly b a ≡ false
differs_before a b h =
    sym (exact_is b a) ∙ ap is_eq (nat_list_cmp_total.antisymm b a ∙ ap ordering_reverse (by_less (compared a b) h))

neither : (o : Ordering) → is_eq o ≡ false → is_gt o ≡ false → is_lt o ≡ true
neither Less h k = refl
neither Equal h k = cc
neither Greater h k = cc

-- a name that is neither the same nor a later one
pub before_other : (a b : List ℕ) → is_exactly a b ≡ false → name_before b a ≡ false → name_before a b ≡ true
before_other a b differs later =
    neither (compared a b) (exact_is a b ∙ differs) (sym (before_is b a) ∙ later)

module _ {X : Type 0} (name_of : X → List ℕ) where
  -- the names ascend
  abbrev pub Ascend : List X → Type 0
  Ascend xs = ascends name_before (map name_of xs) ≡ true

  abbrev pub AscendAfter : List ℕ → List X → Type 0
  AscendAfter name xs = ascends_after name_before name (map name_of xs) ≡ true

  pub after-tail : (x : X) (xs : List X) → AscendAfter (name_of x) xs → Ascend xs
  after-tail x xs h = rest_ascends name_before (name_of x) (map name_of xs) h

  pub after-rest : (name : List ℕ) (x : X) (xs : List X) → AscendAfter name (x ∷ xs) → AscendAfter (name_of x) xs
  after-rest name x xs h =
      (and_parts (name_before name (name_of x)) (ascends_after name_before (name_of x) (map name_of xs)) h).1

  pub after-at : (name : List ℕ) (xs : List X) → AscendAfter name xs → (k : ℕ) (d : X) → k < length xs → name_before name (name_of (get_or xs k d)) ≡ true
  after-at name [] h k d within = absurd (omega arith)
  after-at name (x ∷ xs) h zero d within =
      (and_parts (name_before name (name_of x)) (ascends_after name_before (name_of x) (map name_of xs)) h).0
  after-at name (x ∷ xs) h (suc k) d within =
      let here = (and_parts (name_before name (name_of x)) (ascends_after name_before (name_of x) (map name_of xs)) h).0 in
      let later = (and_parts (name_before name (name_of x)) (ascends_after name_before (name_of x) (map name_of xs)) h).1 in
      before_trans name (name_of x) (name_of (get_or xs k d)) here (after-at (name_of x) xs later k d (omega arith))

  -- as a binary search asks it

  not_before : (a b : List ℕ) → name_before a b ≡ true → name_before b a ≡ false
  not_before a b h =
      before_is b a ∙ ap is_gt (by_less (compared a b) h)

  neighbours : (xs : List X) → Ascend xs → (k : ℕ) (d : X) → k + 1 < length xs → name_before (name_of (get_or xs (k + 1) d)) (name_of (get_or xs k d)) ≡ false
  neighbours [] h k d within = absurd (omega arith)
  neighbours (x ∷ xs) h zero d within =
      not_before (name_of x) (name_of (get_or xs 0 d)) (after-at (name_of x) xs h 0 d (omega arith))
  neighbours (x ∷ xs) h (suc k) d within =
      let next : suc k + 1 ≡ suc (k + 1) = omega arith in
      rw next (neighbours xs (after-tail x xs h) k d (omega arith))

  sorted : (xs : List X) → Ascend xs → IsSortedBy (λ a b. is_lt (compared (name_of a) (name_of b))) xs
  sorted xs h k d low within = neighbours xs h k d within

  rises : (name : List ℕ) (xs : List X) → Ascend xs → IsNonDecreasingBy (λ x. ordering_index (compared (name_of x) name)) xs
  rises name xs h = searchable_from_sorted nat_list_cmp_total name_of xs name (sorted xs h)

  -- a name that isn't among them
  missing : (name : List ℕ) (xs : List X) (place : ℕ) → place ≤ length xs → AllWithin (λ x. compared (name_of x) name ≡ Less) xs 0 place → AllWithin (λ x. compared (name_of x) name ≡ Greater) xs place (length xs) → name_place name (map name_of xs) ≡ Err place
  missing name [] place within below above =
      let none : place ≡ 0 = omega arith in
      rw none (place_none name)
  missing name (x ∷ xs) zero within below above =
      place_greater name (name_of x) (map name_of xs) (above 0 x (omega arith) (omega arith))
  missing name (x ∷ xs) (suc place) within below above =
      place_less name (name_of x) (map name_of xs) (below 0 x (omega arith) (omega arith))
      ∙ ap one_later (missing name xs place (omega arith) (λ k d low high. below (suc k) d (omega arith) (omega arith)) (λ k d low high. above (suc k) d (omega arith) (omega arith)))

  same_below : (a b name : List ℕ) → name_before a b ≡ true → compared b name ≡ Equal → compared a name ≡ Less
  same_below a b name h e =
      let level : compared name a ≡ compared b a = sym (nat_list_cmp_total.congr b name a e) in
      nat_list_cmp_total.antisymm a name ∙ ap ordering_reverse level ∙ sym (nat_list_cmp_total.antisymm a b) ∙ by_less (compared a b) h

  -- a name that is
  found : (name : List ℕ) (xs : List X) (place : ℕ) → place < length xs → Ascend xs → HoldsAt (λ x. compared (name_of x) name ≡ Equal) xs place → name_place name (map name_of xs) ≡ Ok place
  found name [] place within h here = absurd (omega arith)
  found name (x ∷ xs) zero within h here = place_equal name (name_of x) (map name_of xs) (here x)
  found name (x ∷ xs) (suc place) within h here =
      place_less name (name_of x) (map name_of xs) (same_below (name_of x) (name_of (get_or xs place x)) name (after-at (name_of x) xs h place x (omega arith)) (here x))
      ∙ ap one_later (found name xs place (omega arith) (after-tail x xs h) here)

  -- what a binary search answers
  pub searched : (name : List ℕ) (xs : List X) (r : Result ℕ ℕ) → Ascend xs → IsSearchInRange r (length xs) → IsBinarySearchResult (λ x. compared (name_of x) name) xs r → r ≡ name_place name (map name_of xs)
  searched name xs (Ok place) h within here = sym (found name xs place within h here)
  searched name xs (Err place) h within parted =
      let point = parted (rises name xs h) in
      sym (missing name xs place within point.0 point.1)
