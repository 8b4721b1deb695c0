-- The least line of each name, as it is noted and asked for.
use Rattle.std.proofs.Common.{◌≡◌, ℕ, Bool, true, false, nat_lt, ◌&&◌, ◌||◌, cond, if◌then◌else◌, List, [], ◌∷◌, ◌++◌, Option, Some, None, refl, ap, ◌∙◌, arith}
use Rattle.std.specs.Ordering.{nat_cmp, is_eq}
use Rattle.std.specs.Cmp.Lexicographic.{slice_cmp}
use Rattle.std.specs.List.{list_any, filter_map}
use Rattle.std.proofs.lemmas.Bool.Decides.{nat_tests}
use Rattle.std.proofs.lemmas.Map.Text.{is_eq-slice_cmp}
use Rattle.std.proofs.lemmas.Slice.Eq.{bytes_eq-Decides}
use Rattle.tz_types.specs.declared.cause.Cause.TheVariants as causes
use Rattle.tz_types.specs.declared.fault.LineFault.{LineFault}
use Rattle.tz_specs.specs.Value.{is_exactly}
use Rattle.tz_specs.specs.Whole.{fault_where, repeated_name}
use Rattle.tz_database.specs.FirstLine.{first_line, lesser_line, has_lesser_line, later_name}

-- names that compare as equal are the same, for maps whose keys are labels
pub same_name : (name other : List ℕ) → is_eq (slice_cmp nat_cmp name other) ≡ is_exactly name other
same_name name other = is_eq-slice_cmp name other

pub first-append : (name : List ℕ) (least : Option ℕ) (first second : List (List ℕ × ℕ)) → first_line name least (first ++ second) ≡ first_line name (first_line name least first) second
first-append name least [] second = refl
first-append name least (here ∷ first) second =
    first-append name (if is_exactly here.0 name then lesser_line least here.1 else least) first second

after_lesser : (least : Option ℕ) (other line : ℕ) → has_lesser_line (lesser_line least other) line ≡ (has_lesser_line least line || nat_lt other line)
after_lesser None other line = refl
after_lesser (Some least) other line = grind (arith, nat_tests)

-- whether an earlier line gives the name
abbrev is_given_before : List ℕ → ℕ → List (List ℕ × ℕ) → Bool
is_given_before name line names = list_any (λ other. is_exactly other.0 name && nat_lt other.1 line) names

after_one : (same : Bool) (least : Option ℕ) (other line : ℕ) (later : Bool) → (has_lesser_line (if same then lesser_line least other else least) line || later) ≡ (has_lesser_line least line || ((same && nat_lt other line) || later))
after_one true least other line later = rw (after_lesser least other line) (grind arith)
after_one false least other line later = refl

after_first : (name : List ℕ) (line : ℕ) (least : Option ℕ) (names : List (List ℕ × ℕ)) → has_lesser_line (first_line name least names) line ≡ (has_lesser_line least line || is_given_before name line names)
after_first name line least [] = grind arith
after_first name line least (here ∷ names) =
    after_first name line (if is_exactly here.0 name then lesser_line least here.1 else least) names ∙ after_one (is_exactly here.0 name) least here.1 line (is_given_before name line names)

-- with the least line of each name, the later ones are those that an earlier line gives too
pub later_repeats : (least_of : List ℕ → Option ℕ) (names : List (List ℕ × ℕ)) → ((name : List ℕ) → least_of name ≡ first_line name None names) → (here : List ℕ × ℕ) → later_name least_of here ≡ repeated_name names here
later_repeats least_of names are here =
    ap (λ repeated. fault_where repeated here.1 causes.DuplicateName) (ap (λ least. has_lesser_line least here.1) (are here.0) ∙ after_first here.0 here.1 None names)

filter_agrees : {A : Type 0} (f g : A → Option LineFault) → ((x : A) → f x ≡ g x) → (xs : List A) → filter_map f xs ≡ filter_map g xs
filter_agrees {A} f g same [] = refl
filter_agrees {A} f g same (x ∷ xs) = rw (same x) (rw (filter_agrees f g same xs) refl)

-- and so the same faults are told
pub same_repeats : (least_of : List ℕ → Option ℕ) (names : List (List ℕ × ℕ)) → ((name : List ℕ) → least_of name ≡ first_line name None names) → filter_map (later_name least_of) names ≡ filter_map (repeated_name names) names
same_repeats least_of names are =
    filter_agrees (later_name least_of) (repeated_name names) (later_repeats least_of names are) names

by_name : (get_old : List ℕ → Option ℕ) (name other : List ℕ) (line least : ℕ) (same : Bool) → is_exactly name other ≡ same → Some least ≡ lesser_line (get_old name) line → cond same (Some least) (get_old other) ≡ (if same then lesser_line (get_old other) line else get_old other)
by_name get_old name other line least true e is =
    let equal : name ≡ other = (bytes_eq-Decides name other).0 e in
    is ∙ ap (λ name. lesser_line (get_old name) line) equal
by_name get_old name other line least false e is = refl

-- the least lines, where one more is noted
pub noted : (get_old : List ℕ → Option ℕ) (name other : List ℕ) (line least : ℕ) (new : Option ℕ) → new ≡ cond (is_exactly name other) (Some least) (get_old other) → Some least ≡ lesser_line (get_old name) line → new ≡ (if is_exactly name other then lesser_line (get_old other) line else get_old other)
noted get_old name other line least new e is =
    e ∙ by_name get_old name other line least (is_exactly name other) refl is
