-- Lists put in the order of a name that no two elements share.
use Rattle.std.proofs.Common.{◌≡◌, ℕ, Bool, true, false, ◌&&◌, ◌||◌, nat_lt, IsTrue, if◌then◌else◌, List, [], ◌∷◌, map, filter_map, Option, Some, None, refl, sym, ◌∙◌, ⊎_elim, arith, subst}
use Rattle.std.specs.List.{Contains, list_any}
use Rattle.std.specs.List.Sorted.{IsPermutation}
use Rattle.std.proofs.lemmas.Bool.{cases_Bool}
use Rattle.std.proofs.lemmas.Bool.Decides.{nat_tests}
use Rattle.std.proofs.lemmas.List.Sorted.{IsPermutation-refl, IsPermutation-trans, IsPermutation-cons, IsPermutation-middle}
use Rattle.tz_types.specs.Order.{ascends, ascends_after, name_before}
use Rattle.tz_specs.specs.Value.{is_exactly}
use Rattle.tz_specs.proofs.AscendingLemmas.{both_hold, first_or_later, is_first, is_later, never_in_none}
use Rattle.tz_text_laws.proofs.Names.{same_name, exactly_itself, or_before}

abbrev pub put : {X : Type 0} → (X → List ℕ) → X → List X → List X
put key x [] = x ∷ []
put key x (y ∷ ys) = if name_before (key x) (key y) then x ∷ y ∷ ys else y ∷ put key x ys

abbrev pub sorted : {X : Type 0} → (X → List ℕ) → List X → List X
sorted key [] = []
sorted key (x ∷ xs) = put key x (sorted key xs)

put_permutes : {X : Type 0} (key : X → List ℕ) (x : X) (ys : List X) → IsPermutation (x ∷ ys) (put key x ys)
put_permutes key x [] = IsPermutation-refl (x ∷ [])
put_permutes key x (y ∷ ys) =
    ⊎_elim (λ (before : name_before (key x) (key y) ≡ true). rw (before) (IsPermutation-refl (x ∷ y ∷ ys)))
    (λ (after : name_before (key x) (key y) ≡ false).
    rw (after) (IsPermutation-trans (x ∷ y ∷ ys) (y ∷ x ∷ ys) (y ∷ put key x ys) (IsPermutation-middle (x ∷ []) y ys) (IsPermutation-cons y (x ∷ ys) (put key x ys) (put_permutes key x ys))))
    (cases_Bool (name_before (key x) (key y)))

pub sorted_permutes : {X : Type 0} (key : X → List ℕ) (xs : List X) → IsPermutation xs (sorted key xs)
sorted_permutes key [] = IsPermutation-refl []
sorted_permutes key (x ∷ xs) =
    IsPermutation-trans (x ∷ xs) (x ∷ sorted key xs) (put key x (sorted key xs)) (IsPermutation-cons x xs (sorted key xs) (sorted_permutes key xs)) (put_permutes key x (sorted key xs))

-- P of each element
abbrev pub Each : {X : Type 0} → (X → Type 0) → List X → Type 0
Each P [] = Unit {0}
Each P (x ∷ xs) = P x × Each P xs

each_put : {X : Type 0} (P : X → Type 0) (key : X → List ℕ) (x : X) (ys : List X) → P x → Each P ys → Each P (put key x ys)
each_put P key x [] here each = (here, tt)
each_put P key x (y ∷ ys) here each =
    ⊎_elim (λ (before : name_before (key x) (key y) ≡ true). rw (before) (here, each))
    (λ (after : name_before (key x) (key y) ≡ false). rw (after) (each.0, each_put P key x ys here each.1))
    (cases_Bool (name_before (key x) (key y)))

pub each_sorted : {X : Type 0} (P : X → Type 0) (key : X → List ℕ) (xs : List X) → Each P xs → Each P (sorted key xs)
each_sorted P key [] each = tt
each_sorted P key (x ∷ xs) each = each_put P key x (sorted key xs) each.0 (each_sorted P key xs each.1)

-- no two have one name
abbrev Away : {X : Type 0} → (X → List ℕ) → X → X → Type 0
Away key x y = is_exactly (key y) (key x) ≡ false

abbrev pub Distinct : {X : Type 0} → (X → List ℕ) → List X → Type 0
Distinct key [] = Unit {0}
Distinct key (x ∷ xs) = Each (Away key x) xs × Distinct key xs

put_after : {X : Type 0} (key : X → List ℕ) (first : List ℕ) (x : X) (ys : List X) → IsTrue (name_before first (key x)) → Each (Away key x) ys → IsTrue (ascends_after name_before first (map key ys)) → IsTrue (ascends_after name_before first (map key (put key x ys)))
put_after key first x [] before away h = rw before refl
put_after key first x (y ∷ ys) before away h =
    let both = both_hold (name_before first (key y)) (ascends_after name_before (key y) (map key ys)) h in
    ⊎_elim (λ (here : name_before (key x) (key y) ≡ true). rw (here, before, here) both.1)
    (λ (after : name_before (key x) (key y) ≡ false).
    rw (after, both.0) (put_after key (key y) x ys (or_before (key x) (key y) after away.0) away.1 both.1))
    (cases_Bool (name_before (key x) (key y)))

put_ascends : {X : Type 0} (key : X → List ℕ) (x : X) (ys : List X) → Each (Away key x) ys → IsTrue (ascends name_before (map key ys)) → IsTrue (ascends name_before (map key (put key x ys)))
put_ascends key x [] away h = refl
put_ascends key x (y ∷ ys) away h =
    ⊎_elim (λ (here : name_before (key x) (key y) ≡ true). rw (here, here) h)
    (λ (after : name_before (key x) (key y) ≡ false).
    rw (after) (put_after key (key y) x ys (or_before (key x) (key y) after away.0) away.1 h))
    (cases_Bool (name_before (key x) (key y)))

pub sorted_ascends : {X : Type 0} (key : X → List ℕ) (xs : List X) → Distinct key xs → IsTrue (ascends name_before (map key (sorted key xs)))
sorted_ascends key [] distinct = refl
sorted_ascends key (x ∷ xs) distinct =
    put_ascends key x (sorted key xs) (each_sorted (Away key x) key xs distinct.0) (sorted_ascends key xs distinct.1)

-- elements of lists

pub contains_map : {X Y : Type 0} (f : X → Y) (x : X) (xs : List X) → Contains xs x → Contains (map f xs) (f x)
contains_map f x [] is = absurd (never_in_none x is)
contains_map f x (y ∷ ys) is =
    ⊎_elim (λ (here : y ≡ x). subst (λ it. Contains (f y ∷ map f ys) (f it)) here (is_first (f y) (map f ys)))
    (λ (later : Contains ys x). is_later (f y) (f x) (map f ys) (contains_map f x ys later))
    (first_or_later y x ys is)

pub none_each : {X Y : Type 0} (f : X → Option Y) (xs : List X) (x : X) → filter_map f xs ≡ [] → Contains xs x → f x ≡ None
none_each f [] x h is = absurd (never_in_none x is)
none_each {Y = Y} f (y ∷ ys) x h is =
    let parts = split (f y) refl h in
    ⊎_elim (λ (here : y ≡ x). subst (λ it. f it ≡ None) here parts.0)
    (λ (later : Contains ys x). none_each f ys x parts.1 later)
    (first_or_later y x ys is)
  where
    split : (value : Option Y) → f y ≡ value → filter_map f (y ∷ ys) ≡ [] → (f y ≡ None) × (filter_map f ys ≡ [])
    split None is h = (is, rw is at h)
    split (Some z) is h = let bad : z ∷ filter_map f ys ≡ [] = rw is at h in absurd (cc)

pub any_each : {X : Type 0} (p : X → Bool) (xs : List X) (x : X) → list_any p xs ≡ false → Contains xs x → p x ≡ false
any_each p [] x h is = absurd (never_in_none x is)
any_each p (y ∷ ys) x h is =
    let parts = neither (p y) (list_any p ys) h in
    ⊎_elim (λ (here : y ≡ x). subst (λ it. p it ≡ false) here parts.0)
    (λ (later : Contains ys x). any_each p ys x parts.1 later)
    (first_or_later y x ys is)
  where
    neither : (a b : Bool) → (a || b) ≡ false → (a ≡ false) × (b ≡ false)
    neither true b h = absurd (cc)
    neither false b h = (refl, h)

-- Where later elements don't repeat the name of an earlier one, no two have one name.
skip_one : (x y : ℕ) (ys : List ℕ) → IsTrue (ascends_after nat_lt x (y ∷ ys)) → IsTrue (ascends_after nat_lt x ys)
skip_one x y [] h = refl
skip_one x y (z ∷ ys) h =
    let first = both_hold (nat_lt x y) (ascends_after nat_lt y (z ∷ ys)) h in
    let second = both_hold (nat_lt y z) (ascends_after nat_lt z ys) first.1 in
    let third : IsTrue (nat_lt x z) = grind (arith, nat_tests, first.0, second.0) in
    rw third second.1

turned : (a b : List ℕ) → is_exactly a b ≡ false → is_exactly b a ≡ false
turned a b h =
    ⊎_elim (λ (same : is_exactly b a ≡ true).
    let one = same_name b a same in
    let bad : is_exactly a b ≡ true = subst (λ it. is_exactly a it ≡ true) (sym one) (exactly_itself a) in
    absurd (cc))
    (λ (other : is_exactly b a ≡ false). other)
    (cases_Bool (is_exactly b a))

away_each : {X : Type 0} (key : X → List ℕ) (at : X → ℕ) (x : X) (ys : List X) → IsTrue (ascends_after nat_lt (at x) (map at ys)) → ((y : X) → Contains ys y → (is_exactly (key x) (key y) && nat_lt (at x) (at y)) ≡ false) → Each (Away key x) ys
away_each key at x [] h repeats = tt
away_each key at x (y ∷ ys) h repeats =
    let both = both_hold (nat_lt (at x) (at y)) (ascends_after nat_lt (at y) (map at ys)) h in
    let here = repeats y (is_first y ys) in
    let other : is_exactly (key x) (key y) ≡ false = first_false (is_exactly (key x) (key y)) (nat_lt (at x) (at y)) both.0 here in
    (turned (key x) (key y) other, away_each key at x ys (skip_one (at x) (at y) (map at ys) h) (λ z is. repeats z (is_later y z ys is)))
  where
    first_false : (a b : Bool) → IsTrue b → (a && b) ≡ false → a ≡ false
    first_false true b h k = let bad : true ≡ false = sym h ∙ k in absurd (cc)
    first_false false b h k = refl

rises_later : (x : ℕ) (xs : List ℕ) → IsTrue (ascends_after nat_lt x xs) → IsTrue (ascends nat_lt xs)
rises_later x [] h = refl
rises_later x (y ∷ ys) h = (both_hold (nat_lt x y) (ascends_after nat_lt y ys) h).1

pub distinct_from : {X : Type 0} (key : X → List ℕ) (at : X → ℕ) (xs : List X) → IsTrue (ascends nat_lt (map at xs)) → ((x y : X) → Contains xs x → Contains xs y → (is_exactly (key x) (key y) && nat_lt (at x) (at y)) ≡ false) → Distinct key xs
distinct_from key at [] h repeats = tt
distinct_from key at (x ∷ xs) h repeats = (
  away_each key at x xs h (λ y is. repeats x y (is_first x xs) (is_later x y xs is)),
  distinct_from key at xs (rises_later (at x) (map at xs) h) (λ a b first second. repeats a b (is_later x a xs first) (is_later x b xs second)),
)
