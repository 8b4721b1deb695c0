-- The names of a lane's holds, by the rules on holds.
use Rattle.std.proofs.Common.{◌≡◌, ℕ, zero, suc, ◌+◌, ◌≤◌, ◌<◌, Bool, true, false, not, ◌&&◌, if◌then◌else◌, ltb, cond, List, [], ◌∷◌, ◌++◌, length, filter, Contains, Option, Some, None, IsPermutation, refl, sym, ap, subst, ◌∙◌, ⊎_elim, arith}
use Rattle.std.specs.Prelude.{count_by}
use Rattle.std.specs.List.{list_any}
use Rattle.std.proofs.lemmas.Bool.{cases_Bool, cases_lt, both_ways, and_parts, lt-ltb, ltb-true, cond-true, cond-false}
use Rattle.std.proofs.lemmas.Option.{same_Some}
use Rattle.std.proofs.lemmas.List.Sorted.{sum_by-IsPermutation, IsPermutation-map}
use Rattle.std.proofs.lemmas.List.{length_push, length-map}
use Rattle.std.proofs.lemmas.List.Sums.{sum_by-cons, sum_by-append, length-filter, count_by-le-length}
use Rattle.std.proofs.lemmas.Slice.Eq.{bytes_eq-Decides}
use Rattle.tz_specs.specs.Value.{is_exactly}
use Rattle.tz_script.specs.Keeping.{is_among_names, may_begin, has_needed, may_stand, names_after, names_open}
use Rattle.tz_script.specs.Operation.{hold_begun, hold_needed}
use Rattle.tz_script.specs.declared.limit.TheConstants.{MOST_HOLDS}
use Rattle.tz_script.specs.declared.operation.Op.{Op}
use Rattle.tz_script.specs.declared.operation.Op.TheVariants as ops
use Rattle.tz_lane.specs.Holding.{names_of, HoldsAfter}
use Rattle.tz_lane.specs.declared.lane_hold.LaneHold.{LaneHold}

unfoldable pub one_if : Bool → ℕ
one_if test = cond test 1 0

-- ---- counts ----

pub counted : {A : Type 0} (p : A → Bool) (x : A) (xs : List A) → count_by p (x ∷ xs) ≡ one_if (p x) + count_by p xs
unfolding one_if
counted p x xs = sum_by-cons (λ y. cond (p y) 1 0) x xs

counted_push : {A : Type 0} (p : A → Bool) (xs : List A) (x : A) → count_by p (xs ++ x ∷ []) ≡ count_by p xs + one_if (p x)
unfolding one_if
counted_push p xs x = let both = sum_by-append (λ y. cond (p y) 1 0) xs (x ∷ []) in let one = sum_by-cons (λ y. cond (p y) 1 0) x [] in omega (arith, both, one)

-- the lists have the same elements, each as often
unfoldable pub HaveSame : {A : Type 0} → List A → List A → Type 0
HaveSame {A} xs ys = (p : A → Bool) → count_by p xs ≡ count_by p ys

pub same_of_permutation : {A : Type 0} (xs ys : List A) → IsPermutation xs ys → HaveSame xs ys
unfolding HaveSame
same_of_permutation xs ys s p = sym (sum_by-IsPermutation (λ x. cond (p x) 1 0) xs ys s)

all_counted : {A : Type 0} (xs : List A) → count_by (λ (x : A). true) xs ≡ length xs
unfolding one_if
all_counted [] = refl
all_counted (x ∷ xs) = let step = counted (λ y. true) x xs in let rest = all_counted xs in omega (arith, step, rest)

pub same_length : {A : Type 0} (xs ys : List A) → HaveSame xs ys → length xs ≡ length ys
unfolding HaveSame
same_length xs ys same = sym (all_counted xs) ∙ same (λ x. true) ∙ all_counted ys

any_counted : {A : Type 0} (p : A → Bool) (xs : List A) → list_any p xs ≡ ltb 0 (count_by p xs)
unfolding one_if
any_counted p [] = refl
any_counted p (x ∷ xs) =
    ⊎_elim
    (λ (here : p x ≡ true). let step = counted p x xs in let one = ap one_if here in
    any_here p x xs here ∙ sym (lt-ltb 0 (count_by p (x ∷ xs)) (omega (arith, step, one))))
    (λ (away : p x ≡ false). let step = counted p x xs in let none = ap one_if away in
    let same : count_by p xs ≡ count_by p (x ∷ xs) = omega (arith, step, none) in
    any_away p x xs away ∙ any_counted p xs ∙ ap (λ (n : ℕ). ltb 0 n) same)
    (cases_Bool (p x))
  where
    any_here : {A : Type 0} (p : A → Bool) (x : A) (xs : List A) → p x ≡ true → list_any p (x ∷ xs) ≡ true
    any_here p x xs here = simp here

    any_away : {A : Type 0} (p : A → Bool) (x : A) (xs : List A) → p x ≡ false → list_any p (x ∷ xs) ≡ list_any p xs
    any_away p x xs away = simp away

same_any : {A : Type 0} (p : A → Bool) (xs ys : List A) → HaveSame xs ys → list_any p xs ≡ list_any p ys
unfolding HaveSame
same_any p xs ys same = any_counted p xs ∙ ap (λ (n : ℕ). ltb 0 n) (same p) ∙ sym (any_counted p ys)

pub same_count : {A : Type 0} (xs ys : List A) → IsPermutation xs ys → length xs ≡ length ys
same_count xs ys s = same_length xs ys (same_of_permutation xs ys s)

-- an element that passes a test counts
some_counted : {A : Type 0} (p : A → Bool) (xs : List A) (x : A) → Contains xs x → p x ≡ true → 0 < count_by p xs
unfolding one_if
some_counted p [] x (k, low, at) here = absurd (omega (arith, low))
some_counted p (y ∷ xs) x (zero, low, at) here = let step = counted p y xs in let one = ap one_if (ap p at ∙ here) in omega (arith, step, one)
some_counted p (y ∷ xs) x (suc k, low, at) here = let step = counted p y xs in omega (arith, step, some_counted p xs x (k, omega (arith, low), at) here)

-- what none of these passes tells no element
pub none_counted : {A : Type 0} (p : A → Bool) (xs : List A) (x : A) → count_by p xs ≡ 0 → Contains xs x → p x ≡ false
none_counted p xs x none has =
    ⊎_elim (λ (here : p x ≡ true). absurd (omega (arith, none, some_counted p xs x has here))) (λ (away : p x ≡ false). away) (cases_Bool (p x))

-- a count over the elements that pass a test
counted_filter : {A : Type 0} (q p : A → Bool) (xs : List A) → count_by p (filter q xs) ≡ count_by (λ (x : A). q x && p x) xs
unfolding one_if
counted_filter q p [] = refl
counted_filter q p (x ∷ xs) =
    let step = counted (λ y. q y && p y) x xs in let rest = counted_filter q p xs in
    ⊎_elim
    (λ (pass : q x ≡ true).
    let kept : filter q (x ∷ xs) ≡ x ∷ filter q xs = cond-true (q x) (x ∷ filter q xs) (filter q xs) pass in
    let here = counted p x (filter q xs) in let one : one_if (q x && p x) ≡ one_if (p x) = ap (λ (b : Bool). one_if (b && p x)) pass in
    ap (count_by p) kept ∙ omega (arith, here, step, rest, one))
    (λ (fail : q x ≡ false).
    let left : filter q (x ∷ xs) ≡ filter q xs = cond-false (q x) (x ∷ filter q xs) (filter q xs) fail in
    let none : one_if (q x && p x) ≡ 0 = ap (λ (b : Bool). one_if (b && p x)) fail in
    ap (count_by p) left ∙ omega (arith, step, rest, none))
    (cases_Bool (q x))

-- a test changes nothing where no element fails it
counted_past : {A : Type 0} (out p : A → Bool) (xs : List A) → count_by out xs ≡ 0 → count_by (λ (x : A). not (out x) && p x) xs ≡ count_by p xs
unfolding one_if
counted_past out p [] none = refl
counted_past out p (x ∷ xs) none =
    let step = counted out x xs in let whole = counted (λ y. not (out y) && p y) x xs in let part = counted p x xs in
    let away : out x ≡ false = ⊎_elim (λ (here : out x ≡ true). let one = ap one_if here in absurd (omega (arith, step, one, none))) (λ (it : out x ≡ false). it) (cases_Bool (out x)) in
    let same : one_if (not (out x) && p x) ≡ one_if (p x) = ap (λ (b : Bool). one_if (not b && p x)) away in
    let rest = counted_past out p xs (omega (arith, step, none)) in omega (arith, whole, part, same, rest)

-- a filter leaves no more
pub fewer_left : {A : Type 0} (q p : A → Bool) (xs : List A) → count_by p (filter q xs) ≤ count_by p xs
unfolding one_if
fewer_left q p [] = omega arith
fewer_left q p (x ∷ xs) =
    let rest = fewer_left q p xs in let whole = counted p x xs in
    ⊎_elim
    (λ (pass : q x ≡ true).
    let kept = ap (count_by p) (cond-true (q x) (x ∷ filter q xs) (filter q xs) pass) in let here = counted p x (filter q xs) in omega (arith, kept, here, whole, rest))
    (λ (fail : q x ≡ false). let left = ap (count_by p) (cond-false (q x) (x ∷ filter q xs) (filter q xs) fail) in omega (arith, left, whole, rest))
    (cases_Bool (q x))

-- none counts where no element passes
not_counted : {A : Type 0} (p : A → Bool) (xs : List A) → list_any p xs ≡ false → count_by p xs ≡ 0
not_counted p xs none =
    ⊎_elim
    (λ (some : 0 < count_by p xs). absurd (both_ways (list_any p xs) none (any_counted p xs ∙ lt-ltb 0 (count_by p xs) some)))
    (λ (few : count_by p xs ≤ 0). omega (arith, few))
    (cases_lt 0 (count_by p xs))

-- ---- names ----

exactly_same : (a b : List ℕ) → is_exactly a b ≡ true → a ≡ b
exactly_same a b same = (bytes_eq-Decides a b).0 same

exactly_itself : (a : List ℕ) → is_exactly a a ≡ true
exactly_itself a = (bytes_eq-Decides a a).1 refl

-- Operations to come may stand where holds of these names are open, and leave none. No two of the names are one.
pub record Stand (coming : List Op) (held : List (List ℕ)) : Type 0 where
  pub names : List (List ℕ)
  pub rest : names_open names coming ≡ Some []
  pub same : HaveSame held names
  pub once : (name : List ℕ) → count_by (λ other. is_exactly other name) names ≤ 1
  pub few : length names ≤ MOST_HOLDS

-- at first no hold is open
pub stand_first : (coming : List Op) → names_open [] coming ≡ Some [] → Stand coming []
unfolding HaveSame
stand_first coming rest = record { names = []; rest = rest; same = λ p. refl; once = λ name. omega arith; few = omega arith }

same_may : (held names : List (List ℕ)) (op : Op) → HaveSame held names → may_stand held op ≡ may_stand names op
same_may held names op same = λ i. begins (hold_begun op) i && needs (hold_needed op) i
  where
    begins : (name : Option (List ℕ)) → may_begin held name ≡ may_begin names name
    begins None = refl
    begins (Some name) = λ i. not (same_any (λ other. is_exactly other name) held names same i) && ltb (same_length held names same i) MOST_HOLDS

    needs : (name : Option (List ℕ)) → has_needed held name ≡ has_needed names name
    needs None = refl
    needs (Some name) = same_any (λ other. is_exactly other name) held names same

first_stands : (names : List (List ℕ)) (op : Op) (more : List Op) → names_open names (op ∷ more) ≡ Some [] → (may_stand names op ≡ true) × (names_open (names_after op names) more ≡ Some [])
first_stands names op more all = by_test (may_stand names op) (names_open (names_after op names) more) all
  where
    by_test : (test : Bool) (rest : Option (List (List ℕ))) → (if test then rest else None) ≡ Some [] → (test ≡ true) × (rest ≡ Some [])
    by_test true rest h = (refl, h)
    by_test false rest h = cc

-- so few are open
pub few_held : (coming : List Op) (held : List (List ℕ)) → Stand coming held → length held ≤ MOST_HOLDS
few_held coming held stand = let same = same_length held stand.names stand.same in let few = stand.few in omega (arith, same, few)

-- the next operation may stand
pub may_stand_next : (op : Op) (more : List Op) (held : List (List ℕ)) → Stand (op ∷ more) held → may_stand held op ≡ true
may_stand_next op more held stand = same_may held stand.names op stand.same ∙ (first_stands stand.names op more stand.rest).0

-- at the end no hold is open
pub none_left : (held : List (List ℕ)) → Stand [] held → held ≡ []
none_left [] stand = refl
none_left (name ∷ held) stand =
    let none : stand.names ≡ [] = same_Some stand.names [] stand.rest in
    absurd (let long = same_length (name ∷ held) stand.names stand.same in let empty = ap length none in omega (arith, long, empty))

-- ---- after the next operation ----

names_same : (holds later : List LaneHold) → IsPermutation holds later → HaveSame (names_of holds) (names_of later)
names_same holds later s = same_of_permutation (names_of holds) (names_of later) (IsPermutation-map (λ (hold : LaneHold). hold.name) holds later s)

-- a name that is dropped isn't held any more
pub dropped_away : (holds later : List LaneHold) (hold : LaneHold) (name : List ℕ) (op : Op) (more : List Op) → Stand (op ∷ more) (names_of holds) → hold.name ≡ name → IsPermutation holds (hold ∷ later)
    → count_by (λ other. is_exactly other name) (names_of later) ≡ 0
unfolding HaveSame one_if
dropped_away holds later hold name op more stand named s =
    let test : List ℕ → Bool = λ other. is_exactly other name in
    let all = names_same holds (hold ∷ later) s test in let few = stand.once name in let same = stand.same test in
    let step = counted test hold.name (names_of later) in let one = ap one_if (ap test named ∙ exactly_itself name) in
    omega (arith, all, few, same, step, one)

pub stand_next : (line w : ℕ) (op : Op) (more : List Op) (holds later : List LaneHold) → Stand (op ∷ more) (names_of holds) → HoldsAfter line op w holds later → Stand more (names_of later)
unfolding HaveSame one_if
stand_next line w (ops.Hold name) more holds later stand (hold, begun, s) =
    let first = first_stands stand.names (ops.Hold name) more stand.rest in
    let begins : may_begin stand.names (Some name) ≡ true = (and_parts (may_begin stand.names (Some name)) true first.0).0 in
    let fresh : is_among_names name stand.names ≡ false = not_from (is_among_names name stand.names) ((and_parts (not (is_among_names name stand.names)) (ltb (length stand.names) MOST_HOLDS) begins).0) in
    record {
      names = stand.names ++ name ∷ [];
      rest = first.1;
      same = λ p. (let all = names_same later (hold ∷ holds) s p in let step = counted p hold.name (names_of holds) in let push = counted_push p stand.names name in
          let one : one_if (p hold.name) ≡ one_if (p name) = ap (λ (n : List ℕ). one_if (p n)) begun.name_is in let same = stand.same p in omega (arith, all, step, push, one, same));
      once = λ other. once_pushed stand.names name other (stand.once other) fresh;
      few = (let low = ltb-true (length stand.names) MOST_HOLDS (and_parts (not (is_among_names name stand.names)) (ltb (length stand.names) MOST_HOLDS) begins).1 in let long = length_push stand.names name in omega (arith, low, long));
    }
  where
    not_from : (b : Bool) → not b ≡ true → b ≡ false
    not_from false h = refl
    not_from true h = cc

    once_pushed : (names : List (List ℕ)) (name other : List ℕ) → count_by (λ it. is_exactly it other) names ≤ 1 → is_among_names name names ≡ false → count_by (λ it. is_exactly it other) (names ++ name ∷ []) ≤ 1
    once_pushed names name other few fresh =
        let push = counted_push (λ it. is_exactly it other) names name in
        ⊎_elim
        (λ (same : is_exactly name other ≡ true).
        let is : name ≡ other = exactly_same name other same in
        let none : count_by (λ it. is_exactly it other) names ≡ 0 = subst (λ (n : List ℕ). count_by (λ it. is_exactly it n) names ≡ 0) is (not_counted (λ it. is_exactly it name) names fresh) in
        let one = ap one_if same in omega (arith, push, none, one))
        (λ (apart : is_exactly name other ≡ false). let zero_more = ap one_if apart in omega (arith, push, few, zero_more))
        (cases_Bool (is_exactly name other))
stand_next line w (ops.Drop name) more holds later stand (hold, named, s) =
    let first = first_stands stand.names (ops.Drop name) more stand.rest in
    let test : List ℕ → Bool = λ other. is_exactly other name in
    let away = dropped_away holds later hold name (ops.Drop name) more stand named s in
    record {
      names = filter (λ other. not (is_exactly other name)) stand.names;
      rest = first.1;
      same = λ p. (
          let q : List ℕ → Bool = λ other. not (test other) && p other in
          let left = counted_filter (λ other. not (test other)) p stand.names in let here = stand.same q in let all = names_same holds (hold ∷ later) s q in
          let step = counted q hold.name (names_of later) in let past = counted_past test p (names_of later) away in
          let none : one_if (q hold.name) ≡ 0 = ap (λ (b : Bool). one_if (not b && p hold.name)) (ap test named ∙ exactly_itself name) in
          omega (arith, left, here, all, step, past, none));
      few = (let left = length-filter (λ other. not (is_exactly other name)) stand.names in let most = count_by-le-length (λ other. not (is_exactly other name)) stand.names in let low = stand.few in omega (arith, left, most, low));
      once = λ other. (let fewer = fewer_left (λ it. not (is_exactly it name)) (λ it. is_exactly it other) stand.names in let few = stand.once other in omega (arith, fewer, few));
    }
stand_next line w op more holds later stand same =
    let first = first_stands stand.names op more stand.rest in
    record { names = stand.names; rest = first.1; same = λ p. ap (λ (those : List LaneHold). count_by p (names_of those)) same ∙ stand.same p; once = stand.once; few = stand.few }

-- where a hold may begin there is room for it
pub begins_few : (holds : List LaneHold) (name : List ℕ) → may_stand (names_of holds) (ops.Hold name) ≡ true → length holds < MOST_HOLDS
begins_few holds name may =
    let begins : may_begin (names_of holds) (Some name) ≡ true = (and_parts (may_begin (names_of holds) (Some name)) true may).0 in
    let low = ltb-true (length (names_of holds)) MOST_HOLDS (and_parts (not (is_among_names name (names_of holds))) (ltb (length (names_of holds)) MOST_HOLDS) begins).1 in
    let long = length-map holds (λ (hold : LaneHold). hold.name) in omega (arith, low, long)

-- the name that an operation needs is held
pub needs_held : (holds : List LaneHold) (name : List ℕ) (op : Op) → hold_needed op ≡ Some name → may_stand (names_of holds) op ≡ true → is_among_names name (names_of holds) ≡ true
needs_held holds name op needs may =
    let needed = (and_parts (may_begin (names_of holds) (hold_begun op)) (has_needed (names_of holds) (hold_needed op)) may).1 in
    subst (λ (n : Option (List ℕ)). has_needed (names_of holds) n ≡ true) needs needed
