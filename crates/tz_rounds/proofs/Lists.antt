-- Lists in parts, and what a filter keeps of them.
use Rattle.std.proofs.Common.{◌≡◌, ℕ, zero, suc, ◌+◌, ◌≤◌, ◌<◌, ◌⊎◌, ⊎_elim, inl, inr, Bool, true, false, ◌&&◌, cond, List, [], ◌∷◌, ◌++◌, length, take, get_or, count_by, Contains, refl, sym, ap, ap₂, subst, ◌∙◌, arith}
use Rattle.std.specs.Prelude.{Some, slice_get, All}
use Rattle.std.specs.List.{filter}
use Rattle.std.proofs.lemmas.Bool.{cond-true, cond-false, cond_both}
use Rattle.std.proofs.lemmas.List.{length-take, take-take}
use Rattle.std.proofs.lemmas.List.Elements.{All-head, All-tail, All-contains, All-contains_itself, All-filter, All-weaker, Contains-append_left, filter_agree}
use Rattle.std.proofs.lemmas.List.Sums.{length-filter, sum_by-append}

-- ---- parts ----

-- Where an element stands in two lists one after the other: in the first, or in the second.
pub in_parts : {A : Type 0} (first second before later : List A) (here : A) → first ++ second ≡ before ++ here ∷ later
    → ((rest : List A) × (first ≡ before ++ here ∷ rest) × (later ≡ rest ++ second))
    ⊎ ((front : List A) × (before ≡ first ++ front) × (second ≡ front ++ here ∷ later))
in_parts [] second before later here is = inr (before, refl, is)
in_parts (x ∷ first) second [] later here is =
    let head : x ≡ here = cc in
    let tail : first ++ second ≡ later = cc in
    inl (first, ap (λ it. it ∷ first) head, sym tail)
in_parts {A} (x ∷ first) second (y ∷ before) later here is =
    let head : x ≡ y = cc in
    let tail : first ++ second ≡ before ++ here ∷ later = cc in
    ⊎_elim
    (λ (left : (rest : List A) × (first ≡ before ++ here ∷ rest) × (later ≡ rest ++ second)).
    inl (left.0, ap₂ (λ (it : A) (more : List A). it ∷ more) head left.1, left.2))
    (λ (right : (front : List A) × (before ≡ first ++ front) × (second ≡ front ++ here ∷ later)).
    inr (right.0, ap₂ (λ (it : A) (more : List A). it ∷ more) (sym head) right.1, right.2))
    (in_parts first second before later here tail)

-- an element parts the others
pub split_at : {A : Type 0} (xs : List A) (here : A) → Contains xs here → (before : List A) × (later : List A) × (xs ≡ before ++ here ∷ later)
split_at [] here (k, low, at) = absurd (omega (arith, low))
split_at (x ∷ xs) here (zero, low, at) = ([], xs, ap (λ it. it ∷ xs) at)
split_at (x ∷ xs) here (suc k, low, at) =
    let rest = split_at xs here (k, omega (arith, low), at) in
    (x ∷ rest.0, rest.1, ap (λ more. x ∷ more) rest.2)

-- what holds of each element
pub all_from : {A : Type 0} (P : A → Type 0) (xs : List A) → ((x : A) → Contains xs x → P x) → All P xs
all_from P xs each = All-weaker (Contains xs) P each xs (All-contains_itself xs)

-- ---- front parts ----

-- a front part is no longer
pub front_short : {A : Type 0} (front all : List A) → take (length front) all ≡ front → length front ≤ length all
front_short front all is = omega (arith, ap length is, length-take (length front) all)

-- a front part of a front part is one
pub front_of_front : {A : Type 0} (first second all : List A) → take (length first) second ≡ first → take (length second) all ≡ second → take (length first) all ≡ first
front_of_front first second all is then =
    sym (take-take (length first) (length second) all (front_short first second is))
    ∙ ap (take (length first)) then ∙ is

-- ---- filters ----

-- what stands in a place is inside
pub slice_inside : {A : Type 0} (xs : List A) (k : ℕ) (x : A) → slice_get xs k ≡ Some x → k < length xs
slice_inside [] k x there = cc
slice_inside (y ∷ xs) zero x there = omega arith
slice_inside (y ∷ xs) (suc k) x there = omega (arith, slice_inside xs k x there)

-- a filter passes what is passed
pub passed : {A : Type 0} (test : A → Bool) (xs : List A) (x : A) → Contains xs x → test x ≡ true → Contains (filter test xs) x
passed test [] x (k, low, at) pass = absurd (omega (arith, low))
passed test (y ∷ xs) x (zero, low, at) pass =
    subst (λ ys. Contains ys x) (sym (cond-true (test y) (y ∷ filter test xs) (filter test xs) (ap test at ∙ pass))) (zero, omega arith, at)
passed test (y ∷ xs) x (suc k, low, at) pass =
    let rest = passed test xs x (k, omega (arith, low), at) pass in
    cond_both (test y) (y ∷ filter test xs) (filter test xs) (λ ys. Contains ys x)
    (λ holds. (suc rest.0, omega (arith, rest.1), rest.2))
    (λ fails. rest)

-- and nothing else
pub was_there : {A : Type 0} (test : A → Bool) (xs : List A) (x : A) → Contains (filter test xs) x → Contains xs x
was_there test xs x has = All-contains (Contains xs) (filter test xs) x (All-filter test (Contains xs) xs (All-contains_itself xs)) has

-- where all are passed
pub filter_all : {A : Type 0} (test : A → Bool) (xs : List A) → All (λ x. test x ≡ true) xs → filter test xs ≡ xs
filter_all test [] all = refl
filter_all test (x ∷ xs) all =
    cond-true (test x) (x ∷ filter test xs) (filter test xs) (All-head (λ y. test y ≡ true) x xs all)
    ∙ ap (λ more. x ∷ more) (filter_all test xs (All-tail (λ y. test y ≡ true) x xs all))

-- two filters keep the same where they pass the same
pub filter_same : {A : Type 0} (f g : A → Bool) (xs : List A) → All (λ x. f x ≡ g x) xs → filter f xs ≡ filter g xs
filter_same f g [] same = refl
filter_same {A} f g (x ∷ xs) same =
    ap (λ (b : Bool). cond b (x ∷ filter f xs) (filter f xs)) (All-head (λ y. f y ≡ g y) x xs same)
    ∙ ap (λ (more : List A). cond (g x) (x ∷ more) more) (filter_same f g xs (All-tail (λ y. f y ≡ g y) x xs same))

-- where none is
pub filter_none : {A : Type 0} (test : A → Bool) (xs : List A) → All (λ x. test x ≡ false) xs → filter test xs ≡ []
filter_none test [] all = refl
filter_none test (x ∷ xs) all =
    cond-false (test x) (x ∷ filter test xs) (filter test xs) (All-head (λ y. test y ≡ false) x xs all)
    ∙ filter_none test xs (All-tail (λ y. test y ≡ false) x xs all)

-- two filters are one
pub filter_twice : {A : Type 0} (f g : A → Bool) (xs : List A) → filter f (filter g xs) ≡ filter (λ x. g x && f x) xs
filter_twice f g [] = refl
filter_twice {A} f g (x ∷ xs) =
    let rest : List A = filter (λ y. g y && f y) xs in
    cond_both (g x) (x ∷ filter g xs) (filter g xs) (λ (ys : List A). filter f ys ≡ cond (g x && f x) (x ∷ rest) rest)
    (λ pass. ap (λ (more : List A). cond (f x) (x ∷ more) more) (filter_twice f g xs) ∙ ap (λ (b : Bool). cond (b && f x) (x ∷ rest) rest) (sym pass))
    (λ fail. filter_twice f g xs ∙ ap (λ (b : Bool). cond (b && f x) (x ∷ rest) rest) (sym fail))

-- in any order
pub filters_swap : {A : Type 0} (f g : A → Bool) (xs : List A) → filter f (filter g xs) ≡ filter g (filter f xs)
filters_swap f g xs =
    filter_twice f g xs ∙ filter_agree (λ x. g x && f x) (λ x. f x && g x) (λ x. swap (g x) (f x)) xs ∙ sym (filter_twice g f xs)
  where
    swap : (a b : Bool) → (a && b) ≡ (b && a)
    swap true true = refl
    swap true false = refl
    swap false true = refl
    swap false false = refl

-- the first of them does nothing where it passes what the second one passes
pub filter_covers : {A : Type 0} (f g : A → Bool) (xs : List A) → ((x : A) → f x ≡ true → g x ≡ true) → filter f (filter g xs) ≡ filter f xs
filter_covers f g xs covers =
    filter_twice f g xs ∙ filter_agree (λ x. g x && f x) f (λ x. same (g x) (f x) (covers x)) xs
  where
    same : (a b : Bool) → (b ≡ true → a ≡ true) → (a && b) ≡ b
    same true b cover = refl
    same false true cover = cover refl
    same false false cover = refl

-- together they keep nothing where none passes both
pub filters_apart : {A : Type 0} (f g : A → Bool) (xs : List A) → ((x : A) → f x ≡ true → g x ≡ false) → filter f (filter g xs) ≡ []
filters_apart f g xs apart =
    filter_twice f g xs ∙ filter_none (λ x. g x && f x) xs (λ k d low. neither (g (get_or xs k d)) (f (get_or xs k d)) (apart (get_or xs k d)))
  where
    neither : (a b : Bool) → (b ≡ true → a ≡ false) → (a && b) ≡ false
    neither true true apart = apart refl
    neither true false apart = refl
    neither false b apart = refl

-- ---- counts ----

-- two counts are the same where they count the same
pub count_same : {A : Type 0} (f g : A → Bool) (xs : List A) → All (λ x. f x ≡ g x) xs → count_by f xs ≡ count_by g xs
count_same f g xs same = sym (length-filter f xs) ∙ ap length (filter_same f g xs same) ∙ length-filter g xs

-- and none where nothing is counted
pub count_none : {A : Type 0} (test : A → Bool) (xs : List A) → All (λ x. test x ≡ false) xs → count_by test xs ≡ 0
count_none test xs none = sym (length-filter test xs) ∙ ap length (filter_none test xs none)

-- in two parts
pub count_parts : {A : Type 0} (test : A → Bool) (xs ys : List A) → count_by test (xs ++ ys) ≡ count_by test xs + count_by test ys
count_parts test xs ys = sum_by-append (λ x. cond (test x) 1 0) xs ys

-- what holds of each element of two lists, holds of each of the first
pub all_of_first : {A : Type 0} (P : A → Type 0) (xs ys : List A) → All P (xs ++ ys) → All P xs
all_of_first P xs ys all = all_from P xs (λ x has. All-contains P (xs ++ ys) x all (Contains-append_left xs ys x has))
