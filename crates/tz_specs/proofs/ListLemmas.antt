-- What stands in a list, and what holds of each two elements in their order.
use Rattle.std.proofs.Common.{◌≡◌, ℕ, zero, suc, ◌+◌, ◌<◌, ◌≤◌, Bool, true, false, ◌⊎◌, inl, inr, ⊎_elim, refl, ap, subst, ◌∙◌, arith, List, [], ◌∷◌, ◌++◌, map, length, get_or, Some, None}
use Rattle.std.specs.Prelude.{filter, find, flat_map, slice_get}
use Rattle.std.specs.List.{Contains, range_with_len}
use Rattle.std.proofs.lemmas.Bool.{cond-true, cond-false, cases_order}
use Rattle.std.proofs.lemmas.Option.{none-some, same_Some}
use Rattle.tz_specs.proofs.Tests.{by_test}

-- x is the first element, or stands among the others
abbrev pub In : {X : Type 0} → X → List X → Type 0
In x [] = ⊥
In x (y ∷ ys) = (y ≡ x) ⊎ In x ys

In-at : {X : Type 0} (xs : List X) (k : ℕ) (x : X) → k < length xs → get_or xs k x ≡ x → In x xs
In-at [] k x within same = absurd (omega arith)
In-at (y ∷ ys) zero x within same = inl same
In-at (y ∷ ys) (suc k) x within same = inr (In-at ys k x (omega arith) same)

pub In-from_Contains : {X : Type 0} (xs : List X) (x : X) → Contains xs x → In x xs
In-from_Contains xs x has = In-at xs has.0 x has.1 has.2

pub Contains-from_In : {X : Type 0} (xs : List X) (x : X) → In x xs → Contains xs x
Contains-from_In [] x has = absurd has
Contains-from_In (y ∷ ys) x has =
    ⊎_elim (λ (same : y ≡ x). (0, omega arith, same))
    (λ (later : In x ys).
    let there = Contains-from_In ys x later in
    (suc there.0, omega (arith, there.1), there.2))
    has

pub In-from_get : {X : Type 0} (xs : List X) (k : ℕ) (x : X) → slice_get xs k ≡ Some x → In x xs
In-from_get [] k x there = absurd (none-some x there)
In-from_get (y ∷ ys) zero x there = inl (same_Some y x there)
In-from_get (y ∷ ys) (suc k) x there = inr (In-from_get ys k x there)

pub get_from_In : {X : Type 0} (xs : List X) (x : X) → In x xs → (k : ℕ) × (slice_get xs k ≡ Some x)
get_from_In [] x has = absurd has
get_from_In (y ∷ ys) x has =
    ⊎_elim (λ (same : y ≡ x). (0, rw same))
    (λ (later : In x ys). let there = get_from_In ys x later in (suc there.0, there.1))
    has

-- ---- `++`, `map`, `filter`, `flat_map` and ranges of numbers
pub In-append_left : {X : Type 0} (xs ys : List X) (x : X) → In x xs → In x (xs ++ ys)
In-append_left [] ys x has = absurd has
In-append_left (y ∷ xs) ys x has =
    ⊎_elim (λ (same : y ≡ x). inl same) (λ (later : In x xs). inr (In-append_left xs ys x later)) has

pub In-append_right : {X : Type 0} (xs ys : List X) (x : X) → In x ys → In x (xs ++ ys)
In-append_right [] ys x has = has
In-append_right (y ∷ xs) ys x has = inr (In-append_right xs ys x has)

pub In-append_cases : {X : Type 0} (xs ys : List X) (x : X) → In x (xs ++ ys) → In x xs ⊎ In x ys
In-append_cases [] ys x has = inr has
In-append_cases (y ∷ xs) ys x has =
    ⊎_elim (λ (same : y ≡ x). inl (inl same))
    (λ (later : In x (xs ++ ys)). ⊎_elim (λ (here : In x xs). inl (inr here)) (λ (there : In x ys). inr there) (In-append_cases xs ys x later))
    has

pub In-map : {X Y : Type 0} (f : X → Y) (xs : List X) (x : X) → In x xs → In (f x) (map f xs)
In-map f [] x has = absurd has
In-map f (y ∷ xs) x has =
    ⊎_elim (λ (same : y ≡ x). inl (rw same)) (λ (later : In x xs). inr (In-map f xs x later)) has

pub In-map_back : {X Y : Type 0} (f : X → Y) (xs : List X) (y : Y) → In y (map f xs) → (x : X) × In x xs × (f x ≡ y)
In-map_back f [] y has = absurd has
In-map_back f (x ∷ xs) y has =
    ⊎_elim (λ (same : f x ≡ y). (x, inl refl, same))
    (λ (later : In y (map f xs)). let there = In-map_back f xs y later in (there.0, inr there.1, there.2))
    has

filter-kept : {X : Type 0} (test : X → Bool) (x : X) (xs : List X) → test x ≡ true → filter test (x ∷ xs) ≡ x ∷ filter test xs
filter-kept test x xs e = cond-true (test x) (x ∷ filter test xs) (filter test xs) e

filter-dropped : {X : Type 0} (test : X → Bool) (x : X) (xs : List X) → test x ≡ false → filter test (x ∷ xs) ≡ filter test xs
filter-dropped test x xs e = cond-false (test x) (x ∷ filter test xs) (filter test xs) e

pub In-filter : {X : Type 0} (test : X → Bool) (xs : List X) (x : X) → In x xs → test x ≡ true → In x (filter test xs)
In-filter test [] x has passes = absurd has
In-filter test (y ∷ ys) x has passes =
    ⊎_elim
    (λ (same : y ≡ x). let kept : test y ≡ true = rw same passes in rw (filter-kept test y ys kept) (inl same))
    (λ (later : In x ys).
    let there = In-filter test ys x later passes in
    by_test (test y) (λ kept. rw (filter-kept test y ys kept) (inr there))
    (λ dropped. rw (filter-dropped test y ys dropped) there))
    has

pub In-filter_back : {X : Type 0} (test : X → Bool) (xs : List X) (x : X) → In x (filter test xs) → In x xs × (test x ≡ true)
In-filter_back test [] x has = absurd has
In-filter_back test (y ∷ ys) x has =
    by_test (test y)
    (λ kept.
    let has' : In x (y ∷ filter test ys) = rw (filter-kept test y ys kept) at has in
    ⊎_elim (λ (same : y ≡ x). (inl same, rw (← same) kept))
    (λ (later : In x (filter test ys)). let there = In-filter_back test ys x later in (inr there.0, there.1))
    has')
    (λ dropped.
    let has' : In x (filter test ys) = rw (filter-dropped test y ys dropped) at has in
    let there = In-filter_back test ys x has' in
    (inr there.0, there.1))

pub In-flat_map : {X Y : Type 0} (f : X → List Y) (xs : List X) (x : X) (y : Y) → In x xs → In y (f x) → In y (flat_map f xs)
In-flat_map f [] x y has inner = absurd has
In-flat_map f (z ∷ xs) x y has inner =
    ⊎_elim (λ (same : z ≡ x). In-append_left (f z) (flat_map f xs) y (rw same inner))
    (λ (later : In x xs). In-append_right (f z) (flat_map f xs) y (In-flat_map f xs x y later inner))
    has

pub In-flat_map_back : {X Y : Type 0} (f : X → List Y) (xs : List X) (y : Y) → In y (flat_map f xs) → (x : X) × In x xs × In y (f x)
In-flat_map_back f [] y has = absurd has
In-flat_map_back f (z ∷ xs) y has =
    ⊎_elim (λ (here : In y (f z)). (z, inl refl, here))
    (λ (later : In y (flat_map f xs)). let there = In-flat_map_back f xs y later in (there.0, inr there.1, there.2))
    (In-append_cases (f z) (flat_map f xs) y has)

pub In-range : (count first n : ℕ) → first ≤ n → n < first + count → In n (range_with_len first count)
In-range zero first n low high = absurd (omega arith)
In-range (suc count) first n low high =
    ⊎_elim (λ (same : first ≡ n). inl same)
    (⊎_elim (λ (lt : first < n). inr (In-range count (first + 1) n (omega arith) (omega arith)))
    (λ (gt : n < first). absurd (omega arith)))
    (cases_order first n)

pub In-range_back : (count first n : ℕ) → In n (range_with_len first count) → (first ≤ n) × (n < first + count)
In-range_back zero first n has = absurd has
In-range_back (suc count) first n has =
    ⊎_elim (λ (same : first ≡ n). (omega arith, omega arith))
    (λ (later : In n (range_with_len (first + 1) count)).
    let there = In-range_back count (first + 1) n later in
    (omega (arith, there.0), omega (arith, there.1)))
    has

-- ---- each element stands so to each later one
abbrev pub Pairs : {X : Type 0} → (X → X → Type 0) → List X → Type 0
Pairs {X} R [] = Unit {0}
Pairs {X} R (x ∷ xs) = ((y : X) → In y xs → R x y) × Pairs R xs

pub Pairs-append : {X : Type 0} (R : X → X → Type 0) (xs ys : List X) → Pairs R xs → Pairs R ys → ((x y : X) → In x xs → In y ys → R x y) → Pairs R (xs ++ ys)
Pairs-append R [] ys first second across = second
Pairs-append R (x ∷ xs) ys first second across = (
  λ y has.
      ⊎_elim (λ (here : In y xs). first.0 y here) (λ (there : In y ys). across x y (inl refl) there) (In-append_cases xs ys y has),
  Pairs-append R xs ys first.1 second (λ z y here there. across z y (inr here) there),
)

pub Pairs-filter : {X : Type 0} (R : X → X → Type 0) (test : X → Bool) (xs : List X) → Pairs R xs → Pairs R (filter test xs)
Pairs-filter R test [] pairs = tt
Pairs-filter R test (x ∷ xs) pairs =
    by_test (test x)
    (λ kept. rw (filter-kept test x xs kept) (λ y has. pairs.0 y (In-filter_back test xs y has).0, Pairs-filter R test xs pairs.1))
    (λ dropped. rw (filter-dropped test x xs dropped) (Pairs-filter R test xs pairs.1))

pub Pairs-map : {X Y : Type 0} (R : X → X → Type 0) (S : Y → Y → Type 0) (f : X → Y) (xs : List X) → ((x y : X) → In x xs → In y xs → R x y → S (f x) (f y)) → Pairs R xs → Pairs S (map f xs)
Pairs-map R S f [] step pairs = tt
Pairs-map R S f (x ∷ xs) step pairs = (
  λ y has.
      let there = In-map_back f xs y has in
      let stands : S (f x) (f there.0) = step x there.0 (inl refl) (inr there.1) (pairs.0 there.0 there.1) in
      subst (λ (z : _). S (f x) z) there.2 stands,
  Pairs-map R S f xs (λ y z here there r. step y z (inr here) (inr there) r) pairs.1,
)

pub Pairs-flat_map : {X Y : Type 0} (R : X → X → Type 0) (S : Y → Y → Type 0) (f : X → List Y) (xs : List X) → ((x : X) → In x xs → Pairs S (f x)) → ((x y : X) (u v : Y) → In x xs → In y xs → R x y → In u (f x) → In v (f y) → S u v) → Pairs R xs → Pairs S (flat_map f xs)
Pairs-flat_map R S f [] inner step pairs = tt
Pairs-flat_map R S f (x ∷ xs) inner step pairs =
    Pairs-append S (f x) (flat_map f xs) (inner x (inl refl))
    (Pairs-flat_map R S f xs (λ y here. inner y (inr here)) (λ y z u v here there r in_y in_z. step y z u v (inr here) (inr there) r in_y in_z) pairs.1)
    (λ u v in_x has.
    let there = In-flat_map_back f xs v has in
    step x there.0 u v (inl refl) (inr there.1) (pairs.0 there.0 there.1) in_x there.2)

pub Pairs-range : (count first : ℕ) → Pairs (λ (m n : ℕ). m < n) (range_with_len first count)
Pairs-range zero first = tt
Pairs-range (suc count) first =
    (λ y has. omega (arith, In-range_back count (first + 1) y has), Pairs-range count (first + 1))

-- by places
pub Pairs-get : {X : Type 0} (R : X → X → Type 0) (xs : List X) (place later : ℕ) (x y : X) → Pairs R xs → place < later → slice_get xs place ≡ Some x → slice_get xs later ≡ Some y → R x y
Pairs-get R [] place later x y pairs before here there = absurd (none-some x here)
Pairs-get R (z ∷ zs) place zero x y pairs before here there = absurd (omega arith)
Pairs-get R (z ∷ zs) zero (suc later) x y pairs before here there =
    let same : z ≡ x = same_Some z x here in
    let stands : R z y = pairs.0 y (In-from_get zs later y there) in
    rw (← same) stands
Pairs-get R (z ∷ zs) (suc place) (suc later) x y pairs before here there =
    Pairs-get R zs place later x y pairs.1 (omega arith) here there

pub Pairs-both : {X : Type 0} (R S P : X → X → Type 0) (xs : List X) → ((x y : X) → R x y → S x y → P x y) → Pairs R xs → Pairs S xs → Pairs P xs
Pairs-both R S P [] step first second = tt
Pairs-both R S P (x ∷ xs) step first second =
    (λ y has. step x y (first.0 y has) (second.0 y has), Pairs-both R S P xs step first.1 second.1)

-- ---- the first that passes
find-here : {X : Type 0} (test : X → Bool) (x : X) (xs : List X) → test x ≡ true → find test (x ∷ xs) ≡ Some x
find-here test x xs e = cond-true (test x) (Some x) (find test xs) e

find-later : {X : Type 0} (test : X → Bool) (x : X) (xs : List X) → test x ≡ false → find test (x ∷ xs) ≡ find test xs
find-later test x xs e = cond-false (test x) (Some x) (find test xs) e

-- where an element passes, and each other one that does stands later, it is the first
pub find-first : {X : Type 0} (R : X → X → Type 0) (test : X → Bool) (xs : List X) (x : X) → Pairs R xs → In x xs → test x ≡ true → ((other : X) → In other xs → test other ≡ true → R other x → ⊥) → find test xs ≡ Some x
find-first R test [] x pairs has passes first = absurd has
find-first R test (y ∷ ys) x pairs has passes first =
    ⊎_elim
    (λ (same : y ≡ x).
    let passes_too : test y ≡ true = rw same passes in
    find-here test y ys passes_too ∙ ap (λ (z : _). Some z) same)
    (λ (later : In x ys).
    by_test (test y) (λ kept. absurd (first y (inl refl) kept (pairs.0 x later)))
    (λ dropped. find-later test y ys dropped ∙ find-first R test ys x pairs.1 later passes (λ other among. first other (inr among))))
    has

-- where none passes there is none
pub find-none : {X : Type 0} (test : X → Bool) (xs : List X) → ((x : X) → In x xs → test x ≡ false) → find test xs ≡ None
find-none test [] none = refl
find-none test (x ∷ xs) none =
    find-later test x xs (none x (inl refl)) ∙ find-none test xs (λ y has. none y (inr has))

-- the first of appended lists has nothing where all have nothing, and so has the second
pub none_first : {X : Type 0} (xs ys : List X) → (xs ++ ys) ≡ [] → xs ≡ []
none_first [] ys h = refl
none_first (x ∷ xs) ys h = cc

pub none_second : {X : Type 0} (xs ys : List X) → (xs ++ ys) ≡ [] → ys ≡ []
none_second [] ys h = h
none_second (x ∷ xs) ys h = cc
