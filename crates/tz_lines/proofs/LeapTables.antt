-- Leap seconds in the order of their dates and lines: their faults as a whole, and the table that they make.
use Rattle.std.proofs.Common.{◌≡◌, ◌≢◌, ℕ, suc, ◌+◌, ◌<◌, ◌≤◌, ◌⊎◌, inl, inr, ⊎_elim, Bool, true, false, cond, ◌&&◌, ◌||◌, ◌==◌, nat_lt, IsTrue, List, [], ◌∷◌, ◌++◌, length, map, get_or, filter_map, int_lt, int_le, ℤ, ◌<ℤ◌, ◌≤ℤ◌, Option, Some, None, refl, sym, ap, ◌∙◌, subst, append_assoc, arith}
use Rattle.std.specs.Ordering.{is_lt, ordering_then, int_cmp, nat_cmp, bool_cmp, int_eq}
use Rattle.std.specs.Option.{option_to_list}
use Rattle.std.specs.List.{Contains, list_any, sum_by, cons_option}
use Rattle.std.specs.List.Sorted.{IsPermutation, IsSorted}
use Rattle.std.proofs.lemmas.Int.{ints}
use Rattle.std.proofs.lemmas.Bool.{cases_Bool}
use Rattle.std.proofs.lemmas.Bool.Decides.{nat_tests}
use Rattle.std.proofs.lemmas.List.{length-map, get_or_default}
use Rattle.std.proofs.lemmas.List.Sums.{sum_by-cons}
use Rattle.std.proofs.lemmas.List.Elements.{Contains-append_left, Contains-append_right, Contains-append_cases, All-contains}
use Rattle.std.proofs.lemmas.List.Sorted.{IsPermutation-map, Contains-permutation, IsPermutation-sym, length_permutation, list_any-IsPermutation, sum_by-IsPermutation}
use Rattle.tz_types.specs.Order.{ascends, ascends_after}
use Rattle.tz_types.specs.declared.limit.TheConstants.{MOST_LEAPS}
use Rattle.tz_types.specs.declared.cause.Cause.{Cause}
use Rattle.tz_types.specs.declared.cause.Cause.TheVariants as causes
use Rattle.tz_types.specs.declared.fault.LineFault.{LineFault}
use Rattle.tz_types.specs.declared.leap_entry.LeapEntry.{LeapEntry}
use Rattle.tz_types.specs.declared.leaps.Leaps.{Leaps}
use Rattle.tz_specs.specs.Whole.{is_told_before, IsLeast}
use Rattle.tz_specs.specs.LeapText.{leap_fault, leap_fault_where, repeated_leap, repeated_expiry, early_expiry, leap_faults, first_moment, leap_contents_of, ReadsLeaps, RefusesWholeLeaps, RefusesLeaps}
use Rattle.tz_specs.specs.LeapText as texts
use Rattle.tz_specs.proofs.AscendingLemmas.{first_or_later, is_first, is_later, never_in_none}
use Rattle.tz_specs.proofs.ListLemmas.{none_first, none_second}
use Rattle.tz_specs.proofs.LeapTextLemmas.{LinesRise, leap_line, expiry_line, text_good}
use Rattle.tz_lines.specs.declared.leap_contents.WrittenLeap.{WrittenLeap}
use Rattle.tz_lines.specs.declared.leap_contents.WrittenExpiry.{WrittenExpiry}
use Rattle.tz_database.specs.LeastFault.{told_with, IsLeastOf}
use Rattle.tz_lines.specs.LeapContents.{entry_meant, leap_meant, expiry_meant, leap_cmp, AreGiven, IsTableOf}
use Rattle.tz_lines.specs.LeapFaults.{repeats_after, repeats, later_expiries, last_date, is_early, early_expiries}
use Rattle.tz_database.proofs.Leasts.{least_told}

-- ---- each of them before the next

abbrev Before : WrittenLeap → WrittenLeap → Type 0
Before a b = (a.date <ℤ b.date) ⊎ ((a.date ≡ b.date) × (a.line < b.line))

abbrev Rises : WrittenLeap → List WrittenLeap → Type 0
Rises x [] = Unit {0}
Rises x (y ∷ ys) = Before x y × Rises y ys

-- neither the date nor the line falls
abbrev NotAfter : WrittenLeap → WrittenLeap → Type 0
NotAfter a b = (a.date <ℤ b.date) ⊎ ((a.date ≡ b.date) × (a.line ≤ b.line))

not_after : (a b : WrittenLeap) → is_lt (leap_cmp b a) ≡ false → NotAfter a b
not_after a b h = by_dates a.date b.date a.line b.line a.added b.added h
  where
    by_lines : (m n : ℕ) (p q : Bool) → is_lt (ordering_then (nat_cmp n m) (bool_cmp q p)) ≡ false → m ≤ n
    by_lines m n p q h =
        ⊎_elim (λ (e : nat_lt n m ≡ true). let bad : true ≡ false = rw e at h in absurd (cc))
        (λ (e : nat_lt n m ≡ false). grind (arith, nat_tests))
        (cases_Bool (nat_lt n m))

    by_dates : (d e : ℤ) (m n : ℕ) (p q : Bool) → is_lt (ordering_then (int_cmp e d) (ordering_then (nat_cmp n m) (bool_cmp q p))) ≡ false → (d <ℤ e) ⊎ ((d ≡ e) × (m ≤ n))
    by_dates d e m n p q h =
        ⊎_elim (λ (later : int_lt e d ≡ true). let bad : true ≡ false = rw later at h in absurd (cc))
        (λ (not_later : int_lt e d ≡ false).
        ⊎_elim (λ (earlier : int_lt d e ≡ true). inl (grind (arith, ints)))
        (λ (not_earlier : int_lt d e ≡ false). inr (grind (arith, ints), by_lines m n p q (rw (not_later, not_earlier) at h)))
        (cases_Bool (int_lt d e)))
        (cases_Bool (int_lt e d))

abbrev InOrder : WrittenLeap → List WrittenLeap → Type 0
InOrder x [] = Unit {0}
InOrder x (y ∷ ys) = NotAfter x y × InOrder y ys

from_sorted : (x : WrittenLeap) (xs : List WrittenLeap) → IsSorted leap_cmp (x ∷ xs) → InOrder x xs
from_sorted x [] h = tt
from_sorted x (y ∷ ys) h = (not_after x y (h 0 x (omega arith) (omega arith)), from_sorted y ys (λ k d low within. h' k d within))
  where
    h' : (k : ℕ) (d : WrittenLeap) → k + 1 < length (y ∷ ys) → is_lt (leap_cmp (get_or (y ∷ ys) (k + 1) d) (get_or (y ∷ ys) k d)) ≡ false
    h' k d within = let next : suc k + 1 ≡ suc (k + 1) = omega arith in rw next at (h (suc k) d (omega arith) (omega arith))

-- no two stand at one line

abbrev at_line : ℕ → WrittenLeap → ℕ
at_line line leap = cond (leap.line == line) 1 0

none_below : (line low next : ℕ) (leaps : List WrittenLeap) → line < low → LinesRise leap_line low (map leap_meant leaps) next → sum_by (at_line line) leaps ≡ 0
none_below line low next [] below rise = refl
none_below line low next (leap ∷ leaps) below rise =
    let other : (leap.line == line) ≡ false = apart leap.line line low below rise.0 in
    rw (sum_by-cons (at_line line) leap leaps, other) (omega (arith, none_below line (leap.line + 1) next leaps (omega (arith, below, rise.0)) rise.1))
  where
    apart : (a b low : ℕ) → b < low → low ≤ a → (a == b) ≡ false
    apart a b low below from = grind (arith, nat_tests)

one_at_most : (line low next : ℕ) (leaps : List WrittenLeap) → LinesRise leap_line low (map leap_meant leaps) next → sum_by (at_line line) leaps ≤ 1
one_at_most line low next [] rise = omega arith
one_at_most line low next (leap ∷ leaps) rise =
    ⊎_elim (λ (here : (leap.line == line) ≡ true).
    let same : leap.line ≡ line = grind (arith, nat_tests) in
    rw (sum_by-cons (at_line line) leap leaps, here) (omega (arith, none_below line (leap.line + 1) next leaps (omega (arith, same)) rise.1)))
    (λ (other : (leap.line == line) ≡ false).
    rw (sum_by-cons (at_line line) leap leaps, other) (omega (arith, one_at_most line (leap.line + 1) next leaps rise.1)))
    (cases_Bool (leap.line == line))

-- so each is before the next
rises : (x : WrittenLeap) (xs : List WrittenLeap) → ((line : ℕ) → sum_by (at_line line) (x ∷ xs) ≤ 1) → InOrder x xs → Rises x xs
rises x [] few ordered = tt
rises x (y ∷ ys) few ordered = (
  strictly ordered.0,
  rises y ys (λ line. let whole = few line in omega (arith, whole, sum_by-cons (at_line line) x (y ∷ ys))) ordered.1,
)
  where
    itself : (a : ℕ) → (a == a) ≡ true
    itself a = grind (arith, nat_tests)

    other_line : x.line ≢ y.line
    other_line same =
        let whole = few x.line in
        let first : at_line x.line x ≡ 1 = rw (itself x.line) refl in
        let second : at_line x.line y ≡ 1 = rw (sym same, itself x.line) refl in
        omega (arith, whole, first, second, sum_by-cons (at_line x.line) x (y ∷ ys), sum_by-cons (at_line x.line) y ys)

    strictly : NotAfter x y → Before x y
    strictly (inl earlier) = inl earlier
    strictly (inr same) = inr (same.0, apart x.line y.line other_line same.1)
      where
        apart : (a b : ℕ) → a ≢ b → a ≤ b → a < b
        apart a b other upto = omega (arith, other, upto)

before_all : (x z : WrittenLeap) (xs : List WrittenLeap) → Rises x xs → Contains xs z → Before x z
before_all x z [] rise is = absurd (never_in_none z is)
before_all x z (y ∷ ys) rise is =
    ⊎_elim (λ (here : y ≡ z). subst (λ it. Before x it) here rise.0)
    (λ (later : Contains ys z). both rise.0 (before_all y z ys rise.1 later))
    (first_or_later y z ys is)
  where
    both : Before x y → Before y z → Before x z
    both (inl a) (inl b) = inl (omega (arith, ints, a, b))
    both (inl a) (inr b) = inl (omega (arith, ints, a, b.0))
    both (inr a) (inl b) = inl (omega (arith, ints, a.0, b))
    both (inr a) (inr b) = inr (a.0 ∙ b.0, omega (arith, a.1, b.1))

date_upto : (x z : WrittenLeap) → Before x z → x.date ≤ℤ z.date
date_upto x z (inl earlier) = omega (arith, ints, earlier)
date_upto x z (inr same) = omega (arith, ints, same.0)

-- ---- elements of lists

contains_map : {X Y : Type 0} (f : X → Y) (x : X) (xs : List X) → Contains xs x → Contains (map f xs) (f x)
contains_map f x [] is = absurd (never_in_none x is)
contains_map f x (y ∷ ys) is =
    ⊎_elim (λ (here : y ≡ x). subst (λ it. Contains (f y ∷ map f ys) (f it)) here (is_first (f y) (map f ys)))
    (λ (later : Contains ys x). is_later (f y) (f x) (map f ys) (contains_map f x ys later))
    (first_or_later y x ys is)

from_map : {X Y : Type 0} (f : X → Y) (z : Y) (xs : List X) → Contains (map f xs) z → (x : X) × Contains xs x × (f x ≡ z)
from_map f z [] is = absurd (never_in_none z is)
from_map f z (y ∷ ys) is =
    ⊎_elim (λ (here : f y ≡ z). (y, is_first y ys, here))
    (λ (later : Contains (map f ys) z). let found = from_map f z ys later in (found.0, is_later y found.0 ys found.1, found.2))
    (first_or_later (f y) z (map f ys) is)

onto_option : {Y : Type 0} (value : Option Y) (y : Y) (ys : List Y) → Contains ys y → Contains (cons_option value ys) y
onto_option None y ys is = is
onto_option (Some x) y ys is = is_later x y ys is

contains_filtered : {X Y : Type 0} (f : X → Option Y) (x : X) (y : Y) (xs : List X) → Contains xs x → f x ≡ Some y → Contains (filter_map f xs) y
contains_filtered f x y [] is e = absurd (never_in_none x is)
contains_filtered f x y (z ∷ zs) is e =
    ⊎_elim (λ (here : z ≡ x). let value : f z ≡ Some y = ap f here ∙ e in rw value (is_first y (filter_map f zs)))
    (λ (later : Contains zs x). onto_option (f z) y (filter_map f zs) (contains_filtered f x y zs later e))
    (first_or_later z x zs is)

from_option : {Y : Type 0} (value : Option Y) (y : Y) (ys : List Y) → Contains (cons_option value ys) y → (value ≡ Some y) ⊎ Contains ys y
from_option None y ys is = inr is
from_option (Some x) y ys is =
    ⊎_elim (λ (here : x ≡ y). inl (ap Some here)) (λ (later : Contains ys y). inr later) (first_or_later x y ys is)

from_filtered : {X Y : Type 0} (f : X → Option Y) (y : Y) (xs : List X) → Contains (filter_map f xs) y → (x : X) × Contains xs x × (f x ≡ Some y)
from_filtered f y [] is = absurd (never_in_none y is)
from_filtered f y (x ∷ xs) is =
    ⊎_elim (λ (here : f x ≡ Some y). (x, is_first x xs, here))
    (λ (later : Contains (filter_map f xs) y). let found = from_filtered f y xs later in (found.0, is_later x found.0 xs found.1, found.2))
    (from_option (f x) y (filter_map f xs) is)

any_of : {X : Type 0} (p : X → Bool) (xs : List X) → list_any p xs ≡ true → (x : X) × Contains xs x × (p x ≡ true)
any_of p [] h = cc
any_of p (x ∷ xs) h =
    ⊎_elim (λ (here : p x ≡ true). (x, is_first x xs, here))
    (λ (other : p x ≡ false). let found = any_of p xs (rw other at h) in (found.0, is_later x found.0 xs found.1, found.2))
    (cases_Bool (p x))

any_with : {X : Type 0} (p : X → Bool) (x : X) (xs : List X) → Contains xs x → p x ≡ true → list_any p xs ≡ true
any_with p x [] is h = absurd (never_in_none x is)
any_with p x (y ∷ ys) is h =
    ⊎_elim (λ (here : y ≡ x). let holds : p y ≡ true = ap p here ∙ h in rw holds refl)
    (λ (later : Contains ys x). second (p y) (list_any p ys) (any_with p x ys later h))
    (first_or_later y x ys is)
  where
    second : (a b : Bool) → b ≡ true → (a || b) ≡ true
    second true b h = refl
    second false b h = h

-- ---- repeats

both_true : (a b : Bool) → (a && b) ≡ true → (a ≡ true) × (b ≡ true)
both_true true b h = (refl, h)
both_true false b h = cc

both_hold : (a b : Bool) → a ≡ true → b ≡ true → (a && b) ≡ true
both_hold true b h k = k
both_hold false b h k = cc

eq_true : (a b : ℤ) → a ≡ b → int_eq a b ≡ true
eq_true a b h = grind (arith, ints)

same_eq : (a b : ℤ) → int_eq a b ≡ true → a ≡ b
same_eq a b h = grind (arith, ints)

lt_true : (a b : ℕ) → a < b → nat_lt a b ≡ true
lt_true a b h = grind (arith, nat_tests)

from_lt : (a b : ℕ) → nat_lt a b ≡ true → a < b
from_lt a b h = grind (arith, nat_tests)

fault_is : (holds : Bool) (line : ℕ) (cause : Cause) (fault : LineFault) → leap_fault_where holds line cause ≡ Some fault → (holds ≡ true) × (leap_fault line cause ≡ fault)
fault_is true line cause fault h = (refl, cc)
fault_is false line cause fault h = cc

fault_of : (holds : Bool) (line : ℕ) (cause : Cause) → holds ≡ true → leap_fault_where holds line cause ≡ Some (leap_fault line cause)
fault_of true line cause h = refl
fault_of false line cause h = cc

in_option : {Y : Type 0} (value : Option Y) (y : Y) → Contains (option_to_list value) y → value ≡ Some y
in_option None y is = absurd (never_in_none y is)
in_option (Some x) y is =
    ⊎_elim (λ (here : x ≡ y). ap Some here) (λ (later : Contains [] y). absurd (never_in_none y later)) (first_or_later x y [] is)

of_option : {Y : Type 0} (value : Option Y) (y : Y) → value ≡ Some y → Contains (option_to_list value) y
of_option value y e = rw e (is_first y [])

from_repeats : (all : List texts.WrittenLeap) (x : WrittenLeap) (xs : List WrittenLeap) (fault : LineFault) → Rises x xs → Contains all (leap_meant x) → ((z : WrittenLeap) → Contains xs z → Contains all (leap_meant z)) → Contains (repeats_after x xs) fault → Contains (filter_map (repeated_leap all) all) fault
from_repeats all x [] fault rise here into is = absurd (never_in_none fault is)
from_repeats all x (y ∷ ys) fault rise here into is =
    ⊎_elim
    (λ (first : Contains (option_to_list (leap_fault_where (int_eq x.date y.date) y.line causes.LeapRepeat)) fault).
    let parts = fault_is (int_eq x.date y.date) y.line causes.LeapRepeat fault (in_option (leap_fault_where (int_eq x.date y.date) y.line causes.LeapRepeat) fault first) in
    let lower : nat_lt x.line y.line ≡ true = lower_line rise.0 (same_eq x.date y.date parts.0) in
    let any = any_with (λ (other : texts.WrittenLeap). int_eq other.entry.date y.date && nat_lt other.line y.line) (leap_meant x) all here (both_hold (int_eq x.date y.date) (nat_lt x.line y.line) parts.0 lower) in
    contains_filtered (repeated_leap all) (leap_meant y) fault all (into y (is_first y ys))
    (fault_of (list_any (λ (other : texts.WrittenLeap). int_eq other.entry.date y.date && nat_lt other.line y.line) all) y.line causes.LeapRepeat any ∙ ap Some parts.1))
    (λ (later : Contains (repeats_after y ys) fault).
    from_repeats all y ys fault rise.1 (into y (is_first y ys)) (λ z there. into z (is_later y z ys there)) later)
    (Contains-append_cases (option_to_list (leap_fault_where (int_eq x.date y.date) y.line causes.LeapRepeat)) (repeats_after y ys) fault is)
  where
    lower_line : Before x y → x.date ≡ y.date → nat_lt x.line y.line ≡ true
    lower_line (inl earlier) same = absurd (omega (arith, ints, earlier, same))
    lower_line (inr equal) same = lt_true x.line y.line equal.1

-- one that has the date of an earlier one has that of the one right before it
reach : (x z : WrittenLeap) (xs : List WrittenLeap) → Rises x xs → x.date ≡ z.date → Contains xs z → Contains (repeats_after x xs) (leap_fault z.line causes.LeapRepeat)
reach x z [] rise same is = absurd (never_in_none z is)
reach x z (y ∷ ys) rise same is =
    ⊎_elim
    (λ (here : y ≡ z).
    let date : x.date ≡ y.date = same ∙ ap (λ (it : WrittenLeap). it.date) (sym here) in
    let told : leap_fault_where (int_eq x.date y.date) y.line causes.LeapRepeat ≡ Some (leap_fault z.line causes.LeapRepeat) =
    fault_of (int_eq x.date y.date) y.line causes.LeapRepeat (eq_true x.date y.date date) ∙ ap (λ (it : WrittenLeap). Some (leap_fault it.line causes.LeapRepeat)) here in
    Contains-append_left (option_to_list (leap_fault_where (int_eq x.date y.date) y.line causes.LeapRepeat)) (repeats_after y ys) (leap_fault z.line causes.LeapRepeat) (of_option (leap_fault_where (int_eq x.date y.date) y.line causes.LeapRepeat) (leap_fault z.line causes.LeapRepeat) told))
    (λ (later : Contains ys z).
    let next : y.date ≡ z.date = omega (arith, ints, same, date_upto x y rise.0, date_upto y z (before_all y z ys rise.1 later)) in
    Contains-append_right (option_to_list (leap_fault_where (int_eq x.date y.date) y.line causes.LeapRepeat)) (repeats_after y ys) (leap_fault z.line causes.LeapRepeat) (reach y z ys rise.1 next later))
    (first_or_later y z ys is)

walk : (x o z : WrittenLeap) (xs : List WrittenLeap) → Rises x xs → Contains (x ∷ xs) o → Contains (x ∷ xs) z → o.date ≡ z.date → o.line < z.line → Contains (repeats_after x xs) (leap_fault z.line causes.LeapRepeat)
walk x o z [] rise first second same lower =
    ⊎_elim
    (λ (one : x ≡ o). ⊎_elim
    (λ (other : x ≡ z). absurd (on_lines (ap (λ (it : WrittenLeap). it.line) one) (ap (λ (it : WrittenLeap). it.line) other)))
    (λ (later : Contains [] z). absurd (never_in_none z later)) (first_or_later x z [] second))
    (λ (later : Contains [] o). absurd (never_in_none o later)) (first_or_later x o [] first)
  where
    on_lines : x.line ≡ o.line → x.line ≡ z.line → ⊥
    on_lines one other = omega (arith, one, other, lower)
walk x o z (y ∷ ys) rise first second same lower =
    ⊎_elim
    (λ (one : x ≡ o). ⊎_elim
    (λ (other : x ≡ z). absurd (on_lines (ap (λ (it : WrittenLeap). it.line) one) (ap (λ (it : WrittenLeap). it.line) other)))
    (λ (later : Contains (y ∷ ys) z). reach x z (y ∷ ys) rise (ap (λ (it : WrittenLeap). it.date) one ∙ same) later) (first_or_later x z (y ∷ ys) second))
    (λ (further : Contains (y ∷ ys) o). ⊎_elim
    (λ (other : x ≡ z). absurd (not_back (before_all x o (y ∷ ys) rise further) (ap (λ (it : WrittenLeap). it.date) other) (ap (λ (it : WrittenLeap). it.line) other)))
    (λ (later : Contains (y ∷ ys) z).
    Contains-append_right (option_to_list (leap_fault_where (int_eq x.date y.date) y.line causes.LeapRepeat)) (repeats_after y ys) (leap_fault z.line causes.LeapRepeat) (walk y o z ys rise.1 further later same lower))
    (first_or_later x z (y ∷ ys) second))
    (first_or_later x o (y ∷ ys) first)
  where
    on_lines : x.line ≡ o.line → x.line ≡ z.line → ⊥
    on_lines one other = omega (arith, one, other, lower)

    not_back : Before x o → x.date ≡ z.date → x.line ≡ z.line → ⊥
    not_back (inl earlier) date line = omega (arith, ints, earlier, date, same)
    not_back (inr equal) date line = omega (arith, equal.1, line, lower)

abbrev RisesAll : List WrittenLeap → Type 0
RisesAll [] = Unit {0}
RisesAll (x ∷ xs) = Rises x xs

-- what is known of leap seconds in order
record AreOrdered (leaps ordered : List WrittenLeap) : Type 0 where
  permuted : IsPermutation leaps ordered
  rise : RisesAll ordered

are_ordered : (leaps ordered : List WrittenLeap) (next : ℕ) → LinesRise leap_line 0 (map leap_meant leaps) next → IsPermutation leaps ordered → IsSorted leap_cmp ordered → AreOrdered leaps ordered
are_ordered leaps [] next rise permuted sorted = record { permuted = permuted; rise = tt }
are_ordered leaps (x ∷ xs) next rise permuted sorted =
    record {
      permuted = permuted;
      rise = rises x xs (λ line. let same = sum_by-IsPermutation (at_line line) leaps (x ∷ xs) permuted in omega (arith, same, one_at_most line 0 next leaps rise)) (from_sorted x xs sorted);
    }

repeats_of : (leaps ordered : List WrittenLeap) (fault : LineFault) → AreOrdered leaps ordered → Contains (repeats ordered) fault → Contains (filter_map (repeated_leap (map leap_meant leaps)) (map leap_meant leaps)) fault
repeats_of leaps [] fault are is = absurd (never_in_none fault is)
repeats_of leaps (x ∷ xs) fault are is =
    let back : (z : WrittenLeap) → Contains (x ∷ xs) z → Contains (map leap_meant leaps) (leap_meant z) =
    λ z there. contains_map leap_meant z leaps (Contains-permutation (x ∷ xs) leaps z (IsPermutation-sym leaps (x ∷ xs) are.permuted) there) in
    from_repeats (map leap_meant leaps) x xs fault are.rise (back x (is_first x xs)) (λ z there. back z (is_later x z xs there)) is

of_repeats : (leaps ordered : List WrittenLeap) (fault : LineFault) → AreOrdered leaps ordered → Contains (filter_map (repeated_leap (map leap_meant leaps)) (map leap_meant leaps)) fault → Contains (repeats ordered) fault
of_repeats leaps ordered fault are is =
    let all = map leap_meant leaps in
    let found = from_filtered (repeated_leap all) fault all is in
    let here = found.0 in
    let parts = fault_is (list_any (λ (other : texts.WrittenLeap). int_eq other.entry.date here.entry.date && nat_lt other.line here.line) all) here.line causes.LeapRepeat fault found.2 in
    let other = any_of (λ (other : texts.WrittenLeap). int_eq other.entry.date here.entry.date && nat_lt other.line here.line) all parts.0 in
    let tests = both_true (int_eq other.0.entry.date here.entry.date) (nat_lt other.0.line here.line) other.2 in
    let z = from_map leap_meant here leaps found.1 in
    let o = from_map leap_meant other.0 leaps other.1 in
    let date : o.0.date ≡ z.0.date = ap (λ (it : texts.WrittenLeap). it.entry.date) o.2 ∙ same_eq other.0.entry.date here.entry.date tests.0 ∙ ap (λ (it : texts.WrittenLeap). it.entry.date) (sym z.2) in
    let o_line : o.0.line ≡ other.0.line = ap (λ (it : texts.WrittenLeap). it.line) o.2 in
    let z_line : z.0.line ≡ here.line = ap (λ (it : texts.WrittenLeap). it.line) z.2 in
    let lower : o.0.line < z.0.line = omega (arith, o_line, z_line, from_lt other.0.line here.line tests.1) in
    subst (λ it. Contains (repeats ordered) it) (ap (λ (line : ℕ). leap_fault line causes.LeapRepeat) z_line ∙ parts.1) (among ordered are.rise o.0 z.0 (Contains-permutation leaps ordered o.0 are.permuted o.1) (Contains-permutation leaps ordered z.0 are.permuted z.1) date lower)
  where
    among : (ordered : List WrittenLeap) → RisesAll ordered → (o z : WrittenLeap) → Contains ordered o → Contains ordered z → o.date ≡ z.date → o.line < z.line → Contains (repeats ordered) (leap_fault z.line causes.LeapRepeat)
    among [] rise o z first second same lower = absurd (never_in_none o first)
    among (x ∷ xs) rise o z first second same lower = walk x o z xs rise first second same lower

-- ---- expiries

not_lower : (line low next : ℕ) (expiries : List WrittenExpiry) → line ≤ low → LinesRise expiry_line low (map expiry_meant expiries) next → list_any (λ (other : texts.WrittenExpiry). nat_lt other.line line) (map expiry_meant expiries) ≡ false
not_lower line low next [] upto rise = refl
not_lower line low next (expiry ∷ expiries) upto rise =
    let here : nat_lt expiry.line line ≡ false = on_numbers expiry.line line low upto rise.0 in
    rw here (not_lower line (expiry.line + 1) next expiries (omega (arith, upto, rise.0)) rise.1)
  where
    on_numbers : (a b low : ℕ) → b ≤ low → low ≤ a → nat_lt a b ≡ false
    on_numbers a b low upto from = grind (arith, nat_tests)

later_are : (first : WrittenExpiry) (all : List texts.WrittenExpiry) (rest : List WrittenExpiry) (low next : ℕ) → Contains all (expiry_meant first) → first.line < low → LinesRise expiry_line low (map expiry_meant rest) next → filter_map (repeated_expiry all) (map expiry_meant rest) ≡ map (λ (later : WrittenExpiry). leap_fault later.line causes.ExpiresTwice) rest
later_are first all [] low next is below rise = refl
later_are first all (expiry ∷ rest) low next is below rise =
    let lower : nat_lt first.line expiry.line ≡ true = lt_true first.line expiry.line (omega (arith, below, rise.0)) in
    let any = any_with (λ (other : texts.WrittenExpiry). nat_lt other.line expiry.line) (expiry_meant first) all is lower in
    rw (any, later_are first all rest (expiry.line + 1) next is (omega (arith, below, rise.0)) rise.1) refl

later_expiries_are : (expiries : List WrittenExpiry) (next : ℕ) → LinesRise expiry_line 0 (map expiry_meant expiries) next → filter_map (repeated_expiry (map expiry_meant expiries)) (map expiry_meant expiries) ≡ later_expiries expiries
later_expiries_are [] next rise = refl
later_expiries_are (first ∷ rest) next rise =
    let all = map expiry_meant (first ∷ rest) in
    let none : list_any (λ (other : texts.WrittenExpiry). nat_lt other.line first.line) all ≡ false = not_lower first.line first.line next (first ∷ rest) (omega arith) (omega arith, rise.1) in
    rw (none, later_are first all rest (first.line + 1) next (is_first (expiry_meant first) (map expiry_meant rest)) (omega arith) rise.1) refl

or_none : (a : Bool) → (a || false) ≡ a
or_none true = refl
or_none false = refl

le_later : (moment a b : ℤ) → a ≤ℤ b → int_le moment a ≡ true → int_le moment b ≡ true
le_later moment a b h k = grind (arith, ints)

or_later : (a b : Bool) → (a ≡ true → b ≡ true) → (a || b) ≡ b
or_later true b h = sym (h refl)
or_later false b h = refl

first_early : (moment : ℤ) (x y : WrittenLeap) (ys : List WrittenLeap) → Before x y → int_le moment x.date ≡ true → list_any (λ (leap : WrittenLeap). int_le moment leap.date) (y ∷ ys) ≡ true
first_early moment x y ys before h =
    any_with (λ (leap : WrittenLeap). int_le moment leap.date) y (y ∷ ys) (is_first y ys) (le_later moment x.date y.date (date_upto x y before) h)

early_among : (moment : ℤ) (x : WrittenLeap) (xs : List WrittenLeap) → Rises x xs → list_any (λ (leap : WrittenLeap). int_le moment leap.date) (x ∷ xs) ≡ is_early (last_date (x ∷ xs)) moment
early_among moment x [] rise = or_none (int_le moment x.date)
early_among moment x (y ∷ ys) rise =
    or_later (int_le moment x.date) (list_any (λ (leap : WrittenLeap). int_le moment leap.date) (y ∷ ys)) (first_early moment x y ys rise.0)
    ∙ early_among moment y ys rise.1

any_meant : (moment : ℤ) (leaps : List WrittenLeap) → list_any (λ (other : texts.WrittenLeap). int_le moment other.entry.date) (map leap_meant leaps) ≡ list_any (λ (leap : WrittenLeap). int_le moment leap.date) leaps
any_meant moment [] = refl
any_meant moment (leap ∷ leaps) = ap (λ (rest : Bool). int_le moment leap.date || rest) (any_meant moment leaps)

early_is : (moment : ℤ) (leaps ordered : List WrittenLeap) → AreOrdered leaps ordered → list_any (λ (other : texts.WrittenLeap). int_le moment other.entry.date) (map leap_meant leaps) ≡ is_early (last_date ordered) moment
early_is moment leaps ordered are =
    any_meant moment leaps
    ∙ list_any-IsPermutation (λ (leap : WrittenLeap). int_le moment leap.date) leaps ordered are.permuted
    ∙ by_order ordered are.rise
  where
    by_order : (ordered : List WrittenLeap) → RisesAll ordered → list_any (λ (leap : WrittenLeap). int_le moment leap.date) ordered ≡ is_early (last_date ordered) moment
    by_order [] rise = refl
    by_order (x ∷ xs) rise = early_among moment x xs rise

early_expiries_are : (leaps ordered : List WrittenLeap) (expiries : List WrittenExpiry) → AreOrdered leaps ordered → filter_map (early_expiry (map leap_meant leaps)) (map expiry_meant expiries) ≡ early_expiries (last_date ordered) expiries
early_expiries_are leaps ordered [] are = refl
early_expiries_are leaps ordered (expiry ∷ expiries) are =
    let here = early_is expiry.moment leaps ordered are in
    let rest = early_expiries_are leaps ordered expiries are in
    rw (here, rest) refl

-- ---- all faults, and the least

abbrev faults_in_order : List WrittenLeap → List WrittenExpiry → List LineFault
faults_in_order ordered expiries = repeats ordered ++ later_expiries expiries ++ early_expiries (last_date ordered) expiries

abbrev contents_of : List WrittenLeap → List WrittenExpiry → texts.LeapContents
contents_of leaps expiries = record { leaps = map leap_meant leaps; expiries = map expiry_meant expiries }

faults_are : (leaps ordered : List WrittenLeap) (expiries : List WrittenExpiry) (next : ℕ) → AreOrdered leaps ordered → LinesRise expiry_line 0 (map expiry_meant expiries) next → leap_faults (contents_of leaps expiries) ≡ filter_map (repeated_leap (map leap_meant leaps)) (map leap_meant leaps) ++ later_expiries expiries ++ early_expiries (last_date ordered) expiries
unfolding leap_faults
faults_are leaps ordered expiries next are rise =
    rw (later_expiries_are expiries next rise, early_expiries_are leaps ordered expiries are) refl

-- lists with one tail and the same elements before it
swap_front : (one other tail : List LineFault) → ((fault : LineFault) → Contains one fault → Contains other fault) → (fault : LineFault) → Contains (one ++ tail) fault → Contains (other ++ tail) fault
swap_front one other tail into fault is =
    ⊎_elim (λ (front : Contains one fault). Contains-append_left other tail fault (into fault front))
    (λ (back : Contains tail fault). Contains-append_right other tail fault back)
    (Contains-append_cases one tail fault is)

least_of_same : (xs ys : List LineFault) (least : Option LineFault) → ((fault : LineFault) → Contains xs fault → Contains ys fault) → ((fault : LineFault) → Contains ys fault → Contains xs fault) → IsLeastOf xs least → IsLeastOf ys least
least_of_same xs [] None into back is = refl
least_of_same xs (y ∷ ys) None into back is =
    absurd (never_in_none y (subst (λ it. Contains it y) is (back y (is_first y ys))))
least_of_same xs ys (Some fault) into back is =
    record {
      among = into fault is.among;
      least = λ k d within. All-contains_at k d within;
    }
  where
    All-contains_at : (k : ℕ) (d : LineFault) → k < length ys → IsTrue (is_told_before fault (get_or ys k d))
    All-contains_at k d within =
        All-contains (λ other. IsTrue (is_told_before fault other)) xs (get_or ys k d) is.least (back (get_or ys k d) (k, within, get_or_default ys k (get_or ys k d) d within))

least_in_order : (leaps ordered : List WrittenLeap) (expiries : List WrittenExpiry) (next : ℕ) (least : Option LineFault) → AreOrdered leaps ordered → LinesRise expiry_line 0 (map expiry_meant expiries) next → least ≡ told_with None (faults_in_order ordered expiries) → IsLeastOf (leap_faults (contents_of leaps expiries)) least
least_in_order leaps ordered expiries next least are rise told =
    let all = map leap_meant leaps in
    let tail = later_expiries expiries ++ early_expiries (last_date ordered) expiries in
    let one = repeats ordered ++ tail in
    let other = filter_map (repeated_leap all) all ++ tail in
    let same : faults_in_order ordered expiries ≡ one = append_assoc (repeats ordered) (later_expiries expiries) (early_expiries (last_date ordered) expiries) in
    let also : filter_map (repeated_leap all) all ++ later_expiries expiries ++ early_expiries (last_date ordered) expiries ≡ other = append_assoc (filter_map (repeated_leap all) all) (later_expiries expiries) (early_expiries (last_date ordered) expiries) in
    rw (faults_are leaps ordered expiries next are rise, also)
    (least_of_same one other least
    (swap_front (repeats ordered) (filter_map (repeated_leap all) all) tail (λ fault is. repeats_of leaps ordered fault are is))
    (swap_front (filter_map (repeated_leap all) all) (repeats ordered) tail (λ fault is. of_repeats leaps ordered fault are is))
    (least_told one least (told ∙ ap (told_with None) same)))

-- ---- the table

strict_dates : (x : WrittenLeap) (xs : List WrittenLeap) → Rises x xs → repeats_after x xs ≡ [] → IsTrue (ascends_after int_lt x.date (map (λ (entry : LeapEntry). entry.date) (map entry_meant xs)))
strict_dates x [] rise none = refl
strict_dates x (y ∷ ys) rise none =
    let first = none_first (option_to_list (leap_fault_where (int_eq x.date y.date) y.line causes.LeapRepeat)) (repeats_after y ys) none in
    let rest = none_second (option_to_list (leap_fault_where (int_eq x.date y.date) y.line causes.LeapRepeat)) (repeats_after y ys) none in
    both_hold (int_lt x.date y.date) (ascends_after int_lt y.date (map (λ (entry : LeapEntry). entry.date) (map entry_meant ys))) (earlier rise.0 (other (int_eq x.date y.date) y.line first)) (strict_dates y ys rise.1 rest)
  where
    other : (same : Bool) (line : ℕ) → option_to_list (leap_fault_where same line causes.LeapRepeat) ≡ [] → same ≡ false
    other true line e = cc
    other false line e = refl

    earlier : Before x y → int_eq x.date y.date ≡ false → int_lt x.date y.date ≡ true
    earlier (inl before) apart = lt_z x.date y.date before
      where
        lt_z : (a b : ℤ) → a <ℤ b → int_lt a b ≡ true
        lt_z a b h = grind (arith, ints)
    earlier (inr equal) apart = let bad = eq_true x.date y.date equal.0 in absurd (cc)

ascend_in_order : (ordered : List WrittenLeap) → RisesAll ordered → repeats ordered ≡ [] → IsTrue (ascends int_lt (map (λ (entry : LeapEntry). entry.date) (map entry_meant ordered)))
ascend_in_order [] rise none = refl
ascend_in_order (x ∷ xs) rise none = strict_dates x xs rise none

map_meant : (leaps : List WrittenLeap) → map (λ (written : texts.WrittenLeap). written.entry) (map leap_meant leaps) ≡ map entry_meant leaps
map_meant [] = refl
map_meant (leap ∷ leaps) = ap (λ (rest : List LeapEntry). entry_meant leap ∷ rest) (map_meant leaps)

no_repeats : (leaps ordered : List WrittenLeap) (expiries : List WrittenExpiry) → told_with None (faults_in_order ordered expiries) ≡ None → repeats ordered ≡ []
no_repeats leaps ordered expiries told =
    let none = least_told (faults_in_order ordered expiries) None (sym told) in
    none_first (repeats ordered) (later_expiries expiries) (none_first (repeats ordered ++ later_expiries expiries) (early_expiries (last_date ordered) expiries) none)

-- what comes of the contents of a text, whose leap seconds are put in order

pub fault_of_table : (leaps ordered : List WrittenLeap) (expiries : List WrittenExpiry) (fault : LineFault) → AreGiven (contents_of leaps expiries) → IsPermutation leaps ordered → IsSorted leap_cmp ordered → told_with None (faults_in_order ordered expiries) ≡ Some fault → IsLeast (leap_faults (contents_of leaps expiries)) fault
fault_of_table leaps ordered expiries fault given permuted sorted told =
    let good = text_good given.0 (contents_of leaps expiries) given.1 in
    let are = are_ordered leaps ordered good.0 good.1.rise permuted sorted in
    least_in_order leaps ordered expiries good.0 (Some fault) are good.1.expiries_rise (sym told)

pub table_ascends : (leaps ordered : List WrittenLeap) (expiries : List WrittenExpiry) → AreGiven (contents_of leaps expiries) → IsPermutation leaps ordered → IsSorted leap_cmp ordered → told_with None (faults_in_order ordered expiries) ≡ None → IsTrue (ascends int_lt (map (λ (entry : LeapEntry). entry.date) (map entry_meant ordered)))
table_ascends leaps ordered expiries given permuted sorted told =
    let good = text_good given.0 (contents_of leaps expiries) given.1 in
    let are = are_ordered leaps ordered good.0 good.1.rise permuted sorted in
    ascend_in_order ordered are.rise (no_repeats leaps ordered expiries told)

pub table_is_small : (leaps ordered : List WrittenLeap) (expiries : List WrittenExpiry) → AreGiven (contents_of leaps expiries) → IsPermutation leaps ordered → length (map entry_meant ordered) ≤ MOST_LEAPS
table_is_small leaps ordered expiries given permuted =
    let good = text_good given.0 (contents_of leaps expiries) given.1 in
    omega (arith, good.1.few, length-map leaps leap_meant, length-map ordered entry_meant, length_permutation leaps ordered permuted)

pub table_of_text : (leaps ordered : List WrittenLeap) (expiries : List WrittenExpiry) (made : Leaps) → AreGiven (contents_of leaps expiries) → IsPermutation leaps ordered → IsSorted leap_cmp ordered → told_with None (faults_in_order ordered expiries) ≡ None → made.entries ≡ map entry_meant ordered → made.expires ≡ first_moment (map expiry_meant expiries) → IsTableOf (contents_of leaps expiries) made
table_of_text leaps ordered expiries made given permuted sorted told entries expires =
    let good = text_good given.0 (contents_of leaps expiries) given.1 in
    let are = are_ordered leaps ordered good.0 good.1.rise permuted sorted in
    record {
      no_fault = least_in_order leaps ordered expiries good.0 None are good.1.expiries_rise (sym told);
      entries = rw (map_meant leaps, entries) (IsPermutation-map entry_meant leaps ordered permuted);
      expires = expires;
    }
