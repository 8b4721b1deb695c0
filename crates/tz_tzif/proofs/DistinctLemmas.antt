-- Lists of different elements: one more, and how many there are.
use Rattle.std.proofs.Common.{◌≡◌, ℕ, ◌+◌, ◌≤◌, ◌<◌, Bool, true, false, not, ◌&&◌, cond, refl, sym, ap, ◌∙◌, arith, List, [], ◌∷◌, ◌++◌, length, take, get_or, map, Decides, ℤ}
use Rattle.std.specs.Prelude.{filter}
use Rattle.std.specs.List.{list_any}
use Rattle.std.specs.Str.{bytes_eq}
use Rattle.std.specs.Ordering.{int_eq}
use Rattle.std.specs.Bool.{beq}
use Rattle.std.proofs.lemmas.Bool.{cond-true, cond-false, and_parts, and_from}
use Rattle.std.proofs.lemmas.Bool.Decides.{Decides-int_eq}
use Rattle.std.proofs.lemmas.Slice.Eq.{bytes_eq-Decides}
use Rattle.std.proofs.lemmas.List.{map_more, append-nil, length-map}
use Rattle.tz_types.specs.declared.range.SysInfo.{SysInfo}
use Rattle.tz_specs.proofs.Tests.{by_test, not_both}
use Rattle.tz_tzif.specs.declared.local_type.LocalType.{LocalType}
use Rattle.tz_tzif.specs.Types.{distinct, same_type, type_of, types_of}
use Rattle.tz_tzif.specs.Designations.{designations_of}

-- the test tells whether two are one
abbrev pub Tells : {X : Type 0} → (X → X → Bool) → Type 0
Tells {X} same = (x y : X) → Decides (same x y) (x ≡ y)

filter-kept : {X : Type 0} (test : X → Bool) (x : X) (xs : List X) → test x ≡ true → filter test (x ∷ xs) ≡ x ∷ filter test xs
filter-kept test x xs e = cond-true (test x) (x ∷ filter test xs) (filter test xs) e

filter-dropped : {X : Type 0} (test : X → Bool) (x : X) (xs : List X) → test x ≡ false → filter test (x ∷ xs) ≡ filter test xs
filter-dropped test x xs e = cond-false (test x) (x ∷ filter test xs) (filter test xs) e

filter-push : {X : Type 0} (test : X → Bool) (xs : List X) (x : X) → filter test (xs ++ x ∷ []) ≡ filter test xs ++ filter test (x ∷ [])
filter-push test [] x = refl
filter-push test (y ∷ xs) x =
    by_test (test y) (λ kept. rw (filter-kept test y (xs ++ x ∷ []) kept, filter-kept test y xs kept, filter-push test xs x) refl)
    (λ dropped. rw (filter-dropped test y (xs ++ x ∷ []) dropped, filter-dropped test y xs dropped) (filter-push test xs x))

-- what differs from y is found among what differs from y
any-kept : {X : Type 0} (same : X → X → Bool) → Tells same → (x y : X) (xs : List X) → same x y ≡ false → list_any (same x) (filter (λ z. not (same y z)) xs) ≡ list_any (same x) xs
any-kept same tells x y [] other = refl
any-kept same tells x y (z ∷ xs) other =
    by_test (same y z)
    (λ e.
    let is : y ≡ z = (tells y z).0 e in
    let differs : same x z ≡ false = rw (← is) other in
    rw (filter-dropped (λ w. not (same y w)) z xs (rw e refl), differs) (any-kept same tells x y xs other))
    (λ e. rw (filter-kept (λ w. not (same y w)) z xs (rw e refl), any-kept same tells x y xs other) refl)

-- the list with x, unless it is there
abbrev pub with_one : {X : Type 0} → (X → X → Bool) → List X → X → List X
with_one same xs x = cond (list_any (same x) xs) xs (xs ++ x ∷ [])

one_more : {X : Type 0} (same : X → X → Bool) → Tells same → (y x : X) (xs : List X) → y ∷ filter (λ z. not (same y z)) (with_one same xs x) ≡ with_one same (y ∷ filter (λ z. not (same y z)) xs) x
one_more same tells y x xs =
    let others = filter (λ z. not (same y z)) xs in
    by_test (same x y)
    (λ e.
    let is : x ≡ y = (tells x y).0 e in
    let back : same y x ≡ true = (tells y x).1 (sym is) in
    rw e
    (by_test (list_any (same x) xs) (λ there. rw there refl)
    (λ gone. rw (gone, filter-push (λ z. not (same y z)) xs x, back) (ap (λ zs. y ∷ zs) (append-nil others)))))
    (λ e.
    let differs : same y x ≡ false = by_test (same y x) (λ h. not_both (same x y) ((tells x y).1 (sym ((tells y x).0 h))) e) (λ h. h) in
    rw (e, any-kept same tells x y xs e)
    (by_test (list_any (same x) xs) (λ there. rw there refl)
    (λ gone. rw (gone, filter-push (λ z. not (same y z)) xs x, differs) refl)))

pub distinct-push : {X : Type 0} (same : X → X → Bool) → Tells same → (xs : List X) (x : X) → distinct same (xs ++ x ∷ []) ≡ with_one same (distinct same xs) x
unfolding distinct
distinct-push same tells [] x = refl
distinct-push same tells (y ∷ xs) x = rw (distinct-push same tells xs x) (one_more same tells y x (distinct same xs))

filter-shorter : {X : Type 0} (test : X → Bool) (xs : List X) → length (filter test xs) ≤ length xs
filter-shorter test [] = omega arith
filter-shorter test (x ∷ xs) =
    let rest = filter-shorter test xs in
    by_test (test x) (λ e. rw (filter-kept test x xs e) (omega arith)) (λ e. rw (filter-dropped test x xs e) (omega arith))

pub distinct-shorter : {X : Type 0} (same : X → X → Bool) (xs : List X) → length (distinct same xs) ≤ length xs
unfolding distinct
distinct-shorter same [] = omega arith
distinct-shorter same (x ∷ xs) =
    let rest = distinct-shorter same xs in
    let fewer = filter-shorter (λ y. not (same x y)) (distinct same xs) in
    omega arith

pub distinct-none : {X : Type 0} (same : X → X → Bool) → distinct same [] ≡ []
unfolding distinct
distinct-none same = refl

-- ---- types and designations
beq-same : (x y : Bool) → Decides (beq x y) (x ≡ y)
beq-same true true = (λ _. refl, λ _. refl)
beq-same false false = (λ _. refl, λ _. refl)
beq-same true false = (λ e. cc, λ e. cc)
beq-same false true = (λ e. cc, λ e. cc)

fields : ℤ → Bool → List ℕ → LocalType
fields offset is_daylight designation =
    record {
      offset = offset;
      is_daylight = is_daylight;
      designation = designation;
    }

pub same_fields : (x y : LocalType) → x.offset ≡ y.offset → x.is_daylight ≡ y.is_daylight → x.designation ≡ y.designation → x ≡ y
unfolding fields
same_fields x y offset daylight designation =
    let whole : fields x.offset x.is_daylight x.designation ≡ fields y.offset y.is_daylight y.designation = rw (offset, daylight, designation) refl in
    whole

pub same_type-Decides : (x y : LocalType) → Decides (same_type x y) (x ≡ y)
same_type-Decides x y = (
  λ e.
      let parts = and_parts (int_eq x.offset y.offset && beq x.is_daylight y.is_daylight) (bytes_eq x.designation y.designation) e in
      let front = and_parts (int_eq x.offset y.offset) (beq x.is_daylight y.is_daylight) parts.0 in
      let offset : x.offset ≡ y.offset = (Decides-int_eq x.offset y.offset).0 front.0 in
      let daylight : x.is_daylight ≡ y.is_daylight = (beq-same x.is_daylight y.is_daylight).0 front.1 in
      let designation : x.designation ≡ y.designation = (bytes_eq-Decides x.designation y.designation).0 parts.1 in
      same_fields x y offset daylight designation,
  λ e.
      and_from (int_eq x.offset y.offset && beq x.is_daylight y.is_daylight) (bytes_eq x.designation y.designation)
      (and_from (int_eq x.offset y.offset) (beq x.is_daylight y.is_daylight)
      ((Decides-int_eq x.offset y.offset).1 (ap (λ (z : LocalType). z.offset) e))
      ((beq-same x.is_daylight y.is_daylight).1 (ap (λ (z : LocalType). z.is_daylight) e)))
      ((bytes_eq-Decides x.designation y.designation).1 (ap (λ (z : LocalType). z.designation) e)),
)

-- the types of one range more
pub types-more : (ranges : List SysInfo) (place : ℕ) (range : SysInfo) → place < length ranges → range ≡ get_or ranges place range → types_of (take (place + 1) ranges) ≡ with_one same_type (types_of (take place ranges)) (type_of range)
types-more ranges place range within is =
    let one : map type_of (take (place + 1) ranges) ≡ map type_of (take place ranges) ++ type_of range ∷ [] = map_more type_of ranges place range within ∙ rw (← is) refl in
    rw one (distinct-push same_type same_type-Decides (map type_of (take place ranges)) (type_of range))

-- the designations of one type more
pub designations-more : (types : List LocalType) (place : ℕ) (local_type : LocalType) → place < length types → local_type ≡ get_or types place local_type → designations_of (take (place + 1) types) ≡ with_one bytes_eq (designations_of (take place types)) local_type.designation
designations-more types place local_type within is =
    let of : LocalType → List ℕ = λ x. x.designation in
    let one : map of (take (place + 1) types) ≡ map of (take place types) ++ local_type.designation ∷ [] = map_more of types place local_type within ∙ rw (← is) refl in
    rw one (distinct-push bytes_eq bytes_eq-Decides (map of (take place types)) local_type.designation)

-- there are no more designations than types
pub designations_few : (types : List LocalType) (most : ℕ) → length types ≤ most → length (designations_of types) ≤ most
designations_few types most few =
    let of : LocalType → List ℕ = λ x. x.designation in
    let fewer = distinct-shorter bytes_eq (map of types) in
    let as_many : length (map of types) ≡ length types = length-map types of in
    omega arith
