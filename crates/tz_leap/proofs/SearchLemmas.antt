-- What the searches find in the entries of a leap table.
use Rattle.std.proofs.Common.{◌≡◌, ℕ, zero, suc, ◌+◌, ◌<◌, ◌≤◌, Bool, true, false, cond, ◌&&◌, if◌then◌else◌, refl, sym, ap, ◌∙◌, ⊎_elim, arith, List, [], ◌∷◌, length, map, take, get_or, ℤ, pos, ◌+ℤ◌, ◌-ℤ◌, ◌≤ℤ◌, int_lt, int_le, nat_eq, to_z, of_z, FitsSigned}
use Rattle.std.specs.Int.{w64}
use Rattle.std.specs.Ordering.{int_eq}
use Rattle.std.specs.List.{count_by}
use Rattle.std.specs.List.Sorted.{IsPartitionedBy}
use Rattle.std.proofs.lemmas.Int.{ints, by_lt_z, to_z-of_z}
use Rattle.std.proofs.lemmas.Bool.{cases_Bool}
use Rattle.std.proofs.lemmas.List.{get_or_default}
use Rattle.std.proofs.lemmas.List.Sums.{sum_by-cons}
use Rattle.tz_types.specs.declared.limit.TheConstants.{MOST_LEAPS}
use Rattle.tz_types.specs.Order.{ascends}
use Rattle.jiff_core.specs.Calendar.{IsWithin}
use Rattle.tz_types.specs.Leap.{sum_where, running_sums}
use Rattle.tz_types.specs.declared.leap_entry.LeapEntry.{LeapEntry}
use Rattle.tz_specs.specs.LeapSecond.{all_seconds, utc_count, counts_at, elapsed_by, is_inserted, IsSystemTime}
use Rattle.tz_specs.proofs.LeapLemmas.{no_entry, entry_at, date_at, added_at, sum_to, sum_to_low, sum_to_high, running_sum_at, length-running_sums, le_true, le_false, from_le, from_not_le, ascending_places_le, IsReached, reached_exists, utc_count_reached, IsElapsed, begin_of, begin_at, begin_is, begins_in_order, elapsed_exists, elapsed_by_place, system_time_place, count_is_time_and_elapsed, inserted_place, none_inserted}

abbrev dates : List LeapEntry → List ℤ
dates xs = map (λ entry. entry.date) xs

-- ---- sums of the first

pub all_seconds_take : (xs : List LeapEntry) (k : ℕ) → all_seconds (take k xs) ≡ sum_to xs k
all_seconds_take [] zero = refl
all_seconds_take [] (suc k) = refl
all_seconds_take (x ∷ xs) zero = refl
all_seconds_take (x ∷ xs) (suc k) = rw (all_seconds_take xs k) refl

take_all : (xs : List LeapEntry) → take (length xs) xs ≡ xs
take_all [] = refl
take_all (x ∷ xs) = ap (λ (rest : List LeapEntry). x ∷ rest) (take_all xs)

pub all_taken : (xs : List LeapEntry) → all_seconds (take (length xs) xs) ≡ all_seconds xs
all_taken xs = ap all_seconds (take_all xs)

-- ---- counts of what passes a test

count_by-cons : (p : LeapEntry → Bool) (x : LeapEntry) (xs : List LeapEntry) → count_by p (x ∷ xs) ≡ cond (p x) 1 0 + count_by p xs
count_by-cons p x xs = sum_by-cons (λ y. cond (p y) 1 0) x xs

-- where exactly the first n pass, the count is n
pub count_by_place : (p : LeapEntry → Bool) (xs : List LeapEntry) (n : ℕ) → n ≤ length xs → ((k : ℕ) → k < n → p (entry_at xs k) ≡ true) → ((k : ℕ) → n ≤ k → k < length xs → p (entry_at xs k) ≡ false) → count_by p xs ≡ n
count_by_place p [] n within passes fails = omega arith
count_by_place p (x ∷ xs) zero within passes fails =
    rw (count_by-cons p x xs, fails zero (omega arith) (omega arith), count_by_place p xs zero (omega arith) (λ k h. absurd (omega arith)) (λ k h l. fails (suc k) (omega arith) (omega arith))) refl
count_by_place p (x ∷ xs) (suc n) within passes fails =
    rw (count_by-cons p x xs, passes zero (omega arith), count_by_place p xs n (omega arith) (λ k h. passes (suc k) (omega arith)) (λ k h l. fails (suc k) (omega arith) (omega arith))) (omega arith)

-- ---- by dates

-- the entries up to an instant stand before the others
pub entries_partitioned : (xs : List LeapEntry) → ascends int_lt (dates xs) ≡ true → (t : ℤ) → IsPartitionedBy (λ entry. int_le entry.date t) xs
entries_partitioned xs up t i j d upto within passes =
    let first : get_or xs i d ≡ entry_at xs i = get_or_default xs i d no_entry (omega (arith, upto, within)) in
    let second : get_or xs j d ≡ entry_at xs j = get_or_default xs j d no_entry within in
    rw first (le_true (date_at xs i) t (omega (arith, ints, from_le (date_at xs j) t (rw second at passes), ascending_places_le xs up i j upto within)))

reached_from_count : (xs : List LeapEntry) → ascends int_lt (dates xs) ≡ true → (t : ℤ) (n : ℕ) → n ≡ count_by (λ entry. int_le entry.date t) xs → IsReached xs t n
reached_from_count xs up t n count =
    let found = reached_exists xs up t in
    let place = found.1 in
    let same : n ≡ found.0 = count ∙ count_by_place (λ entry. int_le entry.date t) xs found.0 place.within (λ k before. le_true (date_at xs k) t (place.upto k before)) (λ k from below. le_false (date_at xs k) t (place.after k from below)) in
    rw same place

-- what the counted entries add
pub added_from_count : (xs : List LeapEntry) → ascends int_lt (dates xs) ≡ true → (t : ℤ) (n : ℕ) → n ≡ count_by (λ entry. int_le entry.date t) xs → all_seconds (take n xs) ≡ sum_where (λ entry. int_le entry.date t) xs
added_from_count xs up t n count =
    let whole : utc_count xs t ≡ t +ℤ sum_to xs n = utc_count_reached xs t n (reached_from_count xs up t n count) in
    omega (arith, ints, whole, all_seconds_take xs n)

-- ---- by the counts from which they count

same_le : (a b c d : ℤ) → (a ≤ℤ b → c ≤ℤ d) → (c ≤ℤ d → a ≤ℤ b) → int_le a b ≡ int_le c d
same_le a b c d forth back =
    ⊎_elim (λ (here : int_le a b ≡ true). here ∙ sym (le_true c d (forth (from_le a b here))))
    (λ (not : int_le a b ≡ false).
    by_lt_z d c
    (λ beyond. not ∙ sym (le_false c d beyond))
    (λ upto. absurd (omega (arith, ints, from_not_le a b not, back upto))))
    (cases_Bool (int_le a b))

lead_off : (added : Bool) (date sum u : ℤ) → int_le date ((u -ℤ sum) +ℤ (if added then pos 0 else pos 1)) ≡ int_le (begin_of added date sum) u
lead_off true date sum u = same_le date ((u -ℤ sum) +ℤ pos 0) (begin_of true date sum) u (λ h. omega (arith, ints, h)) (λ h. omega (arith, ints, h))
lead_off false date sum u = same_le date ((u -ℤ sum) +ℤ pos 1) (begin_of false date sum) u (λ h. omega (arith, ints, h)) (λ h. omega (arith, ints, h))

-- the test of the search is that of the definition
pub counts_is : (xs : List LeapEntry) → ascends int_lt (dates xs) ≡ true → (u : ℤ) (k : ℕ) (d : LeapEntry) → k < length xs → int_le (date_at xs k) ((u -ℤ all_seconds (take k xs)) +ℤ (if added_at xs k then pos 0 else pos 1)) ≡ counts_at xs u (get_or xs k d)
counts_is xs up u k d within =
    rw (get_or_default xs k d no_entry within, all_seconds_take xs k, begin_is xs up k within) (lead_off (added_at xs k) (date_at xs k) (sum_to xs k) u)

-- what counts at a place counts at those before it
pub counts_upto : (xs : List LeapEntry) → ascends int_lt (dates xs) ≡ true → (u : ℤ) (i j : ℕ) → i ≤ j → j < length xs → counts_at xs u (entry_at xs j) ≡ true → counts_at xs u (entry_at xs i) ≡ true
counts_upto xs up u i j upto within here =
    let later : int_le (begin_at xs j) u ≡ true = rw (begin_is xs up j within) at here in
    rw (begin_is xs up i (omega (arith, upto, within))) (le_true (begin_at xs i) u (omega (arith, ints, from_le (begin_at xs j) u later, begins_in_order xs up i j upto within)))

-- and what doesn't, doesn't at those after it
pub counts_after : (xs : List LeapEntry) → ascends int_lt (dates xs) ≡ true → (u : ℤ) (i j : ℕ) → i ≤ j → j < length xs → counts_at xs u (entry_at xs i) ≡ false → counts_at xs u (entry_at xs j) ≡ false
counts_after xs up u i j upto within here =
    let early : int_le (begin_at xs i) u ≡ false = rw (begin_is xs up i (omega (arith, upto, within))) at here in
    rw (begin_is xs up j within) (le_false (begin_at xs j) u (omega (arith, ints, from_not_le (begin_at xs i) u early, begins_in_order xs up i j upto within)))

pub elapsed_from_count : (xs : List LeapEntry) → ascends int_lt (dates xs) ≡ true → (u : ℤ) (n : ℕ) → n ≡ count_by (counts_at xs u) xs → IsElapsed xs u n
elapsed_from_count xs up u n count =
    let found = elapsed_exists xs up u in
    let place = found.1 in
    let same : n ≡ found.0 = count ∙ count_by_place (counts_at xs u) xs found.0 place.within (λ k before. rw (begin_is xs up k (omega (arith, place.within))) (le_true (begin_at xs k) u (place.upto k before))) (λ k from below. rw (begin_is xs up k below) (le_false (begin_at xs k) u (place.after k from below))) in
    rw same place

-- what is left without what the counted entries add
pub time_from_count : (xs : List LeapEntry) → ascends int_lt (dates xs) ≡ true → (u : ℤ) (n : ℕ) → n ≡ count_by (counts_at xs u) xs → IsSystemTime xs u (u -ℤ all_seconds (take n xs))
time_from_count xs up u n count = rw (all_seconds_take xs n) (system_time_place xs up u n (elapsed_from_count xs up u n count))

pub elapsed_is : (xs : List LeapEntry) → ascends int_lt (dates xs) ≡ true → (u : ℤ) (n : ℕ) → n ≡ count_by (counts_at xs u) xs → all_seconds (take n xs) ≡ elapsed_by xs u
elapsed_is xs up u n count = all_seconds_take xs n ∙ sym (elapsed_by_place xs up u n (elapsed_from_count xs up u n count))

pub law_from_count : (xs : List LeapEntry) → ascends int_lt (dates xs) ≡ true → (u : ℤ) (n : ℕ) → n ≡ count_by (counts_at xs u) xs → (t : ℤ) → IsSystemTime xs u t → u ≡ t +ℤ all_seconds (take n xs)
law_from_count xs up u n count t is =
    count_is_time_and_elapsed xs u t up is ∙ ap (λ (sum : ℤ). t +ℤ sum) (sym (elapsed_is xs up u n count))

-- the last of them is the second itself, or none is
pub second_from_count : (xs : List LeapEntry) → ascends int_lt (dates xs) ≡ true → (u : ℤ) (n k : ℕ) → n ≡ count_by (counts_at xs u) xs → n ≡ k + 1 → (added_at xs k && int_eq (date_at xs k) (u -ℤ all_seconds (take k xs))) ≡ is_inserted xs u
second_from_count xs up u n k count next =
    rw (all_seconds_take xs k) (inserted_place xs up u n k (elapsed_from_count xs up u n count) next)

pub none_from_count : (xs : List LeapEntry) → ascends int_lt (dates xs) ≡ true → (u : ℤ) (n : ℕ) → n ≡ count_by (counts_at xs u) xs → n ≤ 0 → is_inserted xs u ≡ false
none_from_count xs up u n count few =
    let none : n ≡ 0 = omega (arith, few) in
    none_inserted xs up u (rw none at (elapsed_from_count xs up u n count))

-- ---- `==` compares bits

same_test : (m n : ℕ) (a b : ℤ) → (m ≡ n → a ≡ b) → (a ≡ b → m ≡ n) → nat_eq m n ≡ int_eq a b
same_test m n a b back forth = grind (arith, ints)

pub same_bits : (a b : ℤ) → FitsSigned w64 a → FitsSigned w64 b → nat_eq (of_z w64 a) (of_z w64 b) ≡ int_eq a b
same_bits a b fits_a fits_b =
    let back : of_z w64 a ≡ of_z w64 b → a ≡ b = λ e. sym (to_z-of_z w64 a fits_a) ∙ ap (to_z w64) e ∙ to_z-of_z w64 b fits_b in
    let forth : a ≡ b → of_z w64 a ≡ of_z w64 b = ap (of_z w64) in
    same_test (of_z w64 a) (of_z w64 b) a b back forth

-- ---- the running sums

pub sum_looked_up : (sums : List ℤ) (xs : List LeapEntry) (k : ℕ) → sums ≡ running_sums (pos 0) xs → k ≤ length xs → get_or sums k (pos 0) ≡ all_seconds (take k xs)
sum_looked_up sums xs k is within =
    let found = running_sum_at (pos 0) xs k (pos 0) within in
    rw (is, all_seconds_take xs k) (omega (arith, ints, found))

pub place_of_sum : (sums : List ℤ) (xs : List LeapEntry) (k : ℕ) → sums ≡ running_sums (pos 0) xs → k ≤ length xs → k < length sums
place_of_sum sums xs k is within = rw is (omega (arith, length-running_sums (pos 0) xs, within))

pub sum_within : (xs : List LeapEntry) (k : ℕ) → length xs ≤ MOST_LEAPS → k ≤ length xs → IsWithin MOST_LEAPS (all_seconds (take k xs))
sum_within xs k few within =
    rw (all_seconds_take xs k) (omega (arith, ints, sum_to_low xs k, few, within), omega (arith, ints, sum_to_high xs k, few, within))

pub all_within : (xs : List LeapEntry) → length xs ≤ MOST_LEAPS → all_seconds xs ≤ℤ pos MOST_LEAPS
all_within xs few = rw (← all_taken xs) (sum_within xs (length xs) few (omega arith)).1
