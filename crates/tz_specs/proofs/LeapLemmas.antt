-- Leap seconds by the places of their entries.
use Rattle.std.proofs.Common.{◌≡◌, ◌≢◌, ℕ, zero, suc, ◌+◌, ◌-◌, ◌<◌, ◌≤◌, Bool, true, false, ◌&&◌, if◌then◌else◌, IsTrue, inl, inr, ⊎_elim, refl, sym, ap, ◌∙◌, arith, List, [], ◌∷◌, length, map, get_or, ℤ, pos, neg_ℤ, ◌+ℤ◌, ◌-ℤ◌, ◌≤ℤ◌, ◌<ℤ◌, int_lt, int_le}
use Rattle.std.specs.Prelude.{All, Contains}
use Rattle.std.specs.Ordering.{int_eq}
use Rattle.std.proofs.lemmas.Int.{ints, by_lt_z}
use Rattle.std.proofs.lemmas.Bool.{cases_Bool, cases_lt}
use Rattle.std.proofs.lemmas.List.{get_or_default}
use Rattle.std.proofs.lemmas.List.Folds.{list_any_none, list_any_at}
use Rattle.tz_types.specs.Order.{ascends, ascends_after}
use Rattle.tz_types.specs.Leap.{sign, sum_where, running_sums}
use Rattle.tz_types.specs.declared.leap_entry.LeapEntry.{LeapEntry}
use Rattle.tz_specs.specs.LeapSecond.{all_seconds, utc_count, inserted_second, counts_at, elapsed_by, is_inserted, IsHeldBack, IsCounted, IsSystemTime, IsUtcCount}
use Rattle.tz_specs.specs.Expansion.{first_instant, end_of_time, IsInstant}

-- ---- tests on numbers
pub lt_true : (a b : ℤ) → a <ℤ b → int_lt a b ≡ true
lt_true a b h = grind (arith, ints)

pub lt_false : (a b : ℤ) → b ≤ℤ a → int_lt a b ≡ false
lt_false a b h = grind (arith, ints)

pub le_true : (a b : ℤ) → a ≤ℤ b → int_le a b ≡ true
le_true a b h = grind (arith, ints)

pub le_false : (a b : ℤ) → b <ℤ a → int_le a b ≡ false
le_false a b h = grind (arith, ints)

pub from_le : (a b : ℤ) → int_le a b ≡ true → a ≤ℤ b
from_le a b h = grind (arith, ints)

pub from_not_le : (a b : ℤ) → int_le a b ≡ false → b <ℤ a
from_not_le a b h = grind (arith, ints)

pub eq_true : (a b : ℤ) → a ≡ b → int_eq a b ≡ true
eq_true a b h = grind (arith, ints)

pub eq_false : (a b : ℤ) → a ≢ b → int_eq a b ≡ false
eq_false a b h = grind (arith, ints)

pub same_eq : (a b : ℤ) → int_eq a b ≡ true → a ≡ b
same_eq a b h = grind (arith, ints)

false_true : (b : Bool) → b ≡ false → b ≡ true → ⊥
false_true b h k = cc

both_true : (a b : Bool) → (a && b) ≡ true → (a ≡ true) × (b ≡ true)
both_true true b h = (refl, h)
both_true false b h = cc

-- of tests that pass at the places before one where they pass, the first n pass
pub place_between : (passes : ℕ → Bool) (most : ℕ) → ((i j : ℕ) → i < j → j < most → passes j ≡ true → passes i ≡ true) → (n : ℕ) × (n ≤ most) × ((k : ℕ) → k < n → passes k ≡ true) × ((k : ℕ) → n ≤ k → k < most → passes k ≡ false)
place_between passes zero down = (0, omega arith, λ k h. absurd (omega arith), λ k h below. absurd (omega arith))
place_between passes (suc most) down =
    ⊎_elim
    (λ (last : passes most ≡ true). (suc most, omega arith, λ k h. ⊎_elim (λ (before : k < most). down k most before (omega arith) last) (λ (from : most ≤ k). let same : k ≡ most = omega arith in rw same last) (cases_lt k most), λ k h below. absurd (omega arith)))
    (λ (last : passes most ≡ false).
    let found = place_between passes most (λ i j h below. down i j h (omega arith)) in
    (found.0, omega (arith, found.1), found.2, λ k h below. ⊎_elim (λ (before : k < most). found.3 k h before) (λ (from : most ≤ k). let same : k ≡ most = omega arith in rw same last) (cases_lt k most)))
    (cases_Bool (passes most))

-- ---- entries at places
abbrev pub no_entry : LeapEntry
no_entry = record { date = pos 0; added = false }

abbrev pub entry_at : List LeapEntry → ℕ → LeapEntry
entry_at xs k = get_or xs k no_entry

abbrev pub date_at : List LeapEntry → ℕ → ℤ
date_at xs k = (get_or xs k no_entry).date

abbrev pub added_at : List LeapEntry → ℕ → Bool
added_at xs k = (get_or xs k no_entry).added

abbrev dates : List LeapEntry → List ℤ
dates xs = map (λ entry. entry.date) xs

-- the sum of the first k
abbrev pub sum_to : List LeapEntry → ℕ → ℤ
sum_to [] k = pos 0
sum_to (x ∷ xs) zero = pos 0
sum_to (x ∷ xs) (suc k) = sign x.added +ℤ sum_to xs k

sum_to_none : (xs : List LeapEntry) → sum_to xs zero ≡ pos 0
sum_to_none [] = refl
sum_to_none (x ∷ xs) = refl

sign_low : (b : Bool) → neg_ℤ (pos 1) ≤ℤ sign b
sign_low true = omega (arith, ints)
sign_low false = omega (arith, ints)

sign_high : (b : Bool) → sign b ≤ℤ pos 1
sign_high true = omega (arith, ints)
sign_high false = omega (arith, ints)

-- where exactly the first n pass, their sum is that of the first n
pub sum_where_place : (p : LeapEntry → Bool) (xs : List LeapEntry) (n : ℕ) → n ≤ length xs → ((k : ℕ) → k < n → p (entry_at xs k) ≡ true) → ((k : ℕ) → n ≤ k → k < length xs → p (entry_at xs k) ≡ false) → sum_where p xs ≡ sum_to xs n
sum_where_place p [] n within passes fails = refl
sum_where_place p (x ∷ xs) zero within passes fails =
    rw (fails zero (omega arith) (omega arith), sum_where_place p xs zero (omega arith) (λ k h. absurd (omega arith)) (λ k h l. fails (suc k) (omega arith) (omega arith)), sum_to_none xs) refl
sum_where_place p (x ∷ xs) (suc n) within passes fails =
    rw (passes zero (omega arith), sum_where_place p xs n (omega arith) (λ k h. passes (suc k) (omega arith)) (λ k h l. fails (suc k) (omega arith) (omega arith))) refl

sum_to_suc : (xs : List LeapEntry) (k : ℕ) → k < length xs → sum_to xs (suc k) ≡ sum_to xs k +ℤ sign (added_at xs k)
sum_to_suc [] k within = absurd (omega arith)
sum_to_suc (x ∷ xs) zero within = omega (arith, ints, sum_to_none xs)
sum_to_suc (x ∷ xs) (suc k) within = omega (arith, ints, sum_to_suc xs k (omega arith))

pub sum_to_next : (xs : List LeapEntry) (k : ℕ) → k < length xs → sum_to xs (k + 1) ≡ sum_to xs k +ℤ sign (added_at xs k)
sum_to_next xs k within = let next : k + 1 ≡ suc k = omega arith in rw next (sum_to_suc xs k within)

pub sum_to_low : (xs : List LeapEntry) (k : ℕ) → neg_ℤ (pos k) ≤ℤ sum_to xs k
sum_to_low [] k = omega (arith, ints)
sum_to_low (x ∷ xs) zero = omega (arith, ints)
sum_to_low (x ∷ xs) (suc k) = omega (arith, ints, sum_to_low xs k, sign_low x.added)

pub sum_to_high : (xs : List LeapEntry) (k : ℕ) → sum_to xs k ≤ℤ pos k
sum_to_high [] k = omega (arith, ints)
sum_to_high (x ∷ xs) zero = omega (arith, ints)
sum_to_high (x ∷ xs) (suc k) = omega (arith, ints, sum_to_high xs k, sign_high x.added)

-- n more take off n at most
sum_to_falls : (xs : List LeapEntry) (i n : ℕ) → i + n ≤ length xs → (sum_to xs i -ℤ pos n) ≤ℤ sum_to xs (i + n)
sum_to_falls xs i zero within = let same : i + 0 ≡ i = omega arith in rw same (omega (arith, ints))
sum_to_falls xs i (suc n) within =
    let next : i + suc n ≡ (i + n) + 1 = omega arith in
    rw next (omega (arith, ints, sum_to_falls xs i n (omega arith), sum_to_next xs (i + n) (omega arith), sign_low (added_at xs (i + n))))

pub all_seconds_are : (xs : List LeapEntry) → all_seconds xs ≡ sum_to xs (length xs)
all_seconds_are xs =
    sum_where_place (λ entry. true) xs (length xs) (omega arith) (λ k h. refl) (λ k h l. absurd (omega arith))

-- what is looked up among the running sums
pub running_sum_at : (sum : ℤ) (xs : List LeapEntry) (k : ℕ) (d : ℤ) → k ≤ length xs → get_or (running_sums sum xs) k d ≡ sum +ℤ sum_to xs k
running_sum_at sum [] zero d within = omega (arith, ints)
running_sum_at sum [] (suc k) d within = absurd (omega arith)
running_sum_at sum (x ∷ xs) zero d within = omega (arith, ints)
running_sum_at sum (x ∷ xs) (suc k) d within =
    omega (arith, ints, running_sum_at (sum +ℤ sign x.added) xs k d (omega arith))

pub length-running_sums : (sum : ℤ) (xs : List LeapEntry) → length (running_sums sum xs) ≡ length xs + 1
length-running_sums sum [] = refl
length-running_sums sum (x ∷ xs) = omega (arith, length-running_sums (sum +ℤ sign x.added) xs)

-- ---- dates that ascend
pub above_first : (x : ℤ) (xs : List LeapEntry) → ascends_after int_lt x (dates xs) ≡ true → (k : ℕ) → k < length xs → x <ℤ date_at xs k
above_first x [] h k within = absurd (omega arith)
above_first x (y ∷ xs) h zero within = omega (arith, ints, (both_true (int_lt x y.date) (ascends_after int_lt y.date (dates xs)) h).0)
above_first x (y ∷ xs) h (suc k) within =
    let parts = both_true (int_lt x y.date) (ascends_after int_lt y.date (dates xs)) h in
    omega (arith, ints, parts.0, above_first y.date xs parts.1 k (omega arith))

pub ascends_later : (x : ℤ) (xs : List LeapEntry) → ascends_after int_lt x (dates xs) ≡ true → ascends int_lt (dates xs) ≡ true
ascends_later x [] h = refl
ascends_later x (y ∷ xs) h = (both_true _ _ h).1

pub ascending_places : (xs : List LeapEntry) → ascends int_lt (dates xs) ≡ true → (i j : ℕ) → i < j → j < length xs → date_at xs i <ℤ date_at xs j
ascending_places [] h i j before within = absurd (omega arith)
ascending_places (x ∷ xs) h i zero before within = absurd (omega arith)
ascending_places (x ∷ xs) h zero (suc j) before within = above_first x.date xs h j (omega arith)
ascending_places (x ∷ xs) h (suc i) (suc j) before within =
    ascending_places xs (ascends_later x.date xs h) i j (omega arith) (omega arith)

pub ascending_places_le : (xs : List LeapEntry) → ascends int_lt (dates xs) ≡ true → (i j : ℕ) → i ≤ j → j < length xs → date_at xs i ≤ℤ date_at xs j
ascending_places_le xs up i j upto within =
    ⊎_elim (λ (before : i < j). omega (arith, ints, ascending_places xs up i j before within))
    (λ (back : j ≤ i). let same : i ≡ j = omega arith in rw same (omega (arith, ints)))
    (cases_lt i j)

-- n places on, a date is n seconds later at least
dates_apart : (xs : List LeapEntry) → ascends int_lt (dates xs) ≡ true → (i n : ℕ) → i + n < length xs → (date_at xs i +ℤ pos n) ≤ℤ date_at xs (i + n)
dates_apart xs up i zero within = let same : i + 0 ≡ i = omega arith in rw same (omega (arith, ints))
dates_apart xs up i (suc n) within =
    let next : i + suc n ≡ (i + n) + 1 = omega arith in
    rw next (omega (arith, ints, dates_apart xs up i n (omega arith), ascending_places xs up (i + n) ((i + n) + 1) (omega arith) (omega arith)))

-- ---- the dates at or before a system time are the first m
pub record IsReached (xs : List LeapEntry) (t : ℤ) (m : ℕ) : Type 0 where
  pub within : m ≤ length xs
  pub upto : (k : ℕ) → k < m → date_at xs k ≤ℤ t
  pub after : (k : ℕ) → m ≤ k → k < length xs → t <ℤ date_at xs k

pub reached_exists : (xs : List LeapEntry) → ascends int_lt (dates xs) ≡ true → (t : ℤ) → (m : ℕ) × IsReached xs t m
reached_exists xs up t =
    let passes : ℕ → Bool = λ k. int_le (date_at xs k) t in
    let found = place_between passes (length xs)
    (λ i j before below at. le_true (date_at xs i) t (omega (arith, ints, from_le (date_at xs j) t at, ascending_places xs up i j before below))) in (
      found.0,
      record {
        within = found.1;
        upto = λ k before. from_le (date_at xs k) t (found.2 k before);
        after = λ k from below. from_not_le (date_at xs k) t (found.3 k from below);
      },
    )

pub utc_count_reached : (xs : List LeapEntry) (t : ℤ) (m : ℕ) → IsReached xs t m → utc_count xs t ≡ t +ℤ sum_to xs m
utc_count_reached xs t m reached =
    ap (λ (sum : ℤ). t +ℤ sum) (sum_where_place (λ entry. int_le entry.date t) xs m reached.within (λ k before. le_true (date_at xs k) t (reached.upto k before)) (λ k from below. le_false (date_at xs k) t (reached.after k from below)))

-- at a date, and right before it
reached_at : (xs : List LeapEntry) → ascends int_lt (dates xs) ≡ true → (k : ℕ) → k < length xs → IsReached xs (date_at xs k) (k + 1)
reached_at xs up k within =
    record {
      within = omega arith;
      upto = λ i before. ascending_places_le xs up i k (omega arith) within;
      after = λ i from below. ascending_places xs up k i (omega arith) below;
    }

reached_before : (xs : List LeapEntry) → ascends int_lt (dates xs) ≡ true → (k : ℕ) → k < length xs → IsReached xs (date_at xs k -ℤ pos 1) k
reached_before xs up k within =
    record {
      within = omega arith;
      upto = λ i before. omega (arith, ints, ascending_places xs up i k before within);
      after = λ i from below. omega (arith, ints, ascending_places_le xs up k i from below);
    }

pub utc_count_at : (xs : List LeapEntry) → ascends int_lt (dates xs) ≡ true → (k : ℕ) → k < length xs → utc_count xs (date_at xs k) ≡ date_at xs k +ℤ (sum_to xs k +ℤ sign (added_at xs k))
utc_count_at xs up k within =
    utc_count_reached xs (date_at xs k) (k + 1) (reached_at xs up k within) ∙ ap (λ (sum : ℤ). date_at xs k +ℤ sum) (sum_to_next xs k within)

utc_count_before : (xs : List LeapEntry) → ascends int_lt (dates xs) ≡ true → (k : ℕ) → k < length xs → utc_count xs (date_at xs k -ℤ pos 1) ≡ (date_at xs k -ℤ pos 1) +ℤ sum_to xs k
utc_count_before xs up k within =
    utc_count_reached xs (date_at xs k -ℤ pos 1) k (reached_before xs up k within)

pub inserted_second_at : (xs : List LeapEntry) → ascends int_lt (dates xs) ≡ true → (k : ℕ) → k < length xs → inserted_second xs (date_at xs k) ≡ date_at xs k +ℤ sum_to xs k
inserted_second_at xs up k within =
    ap (λ (sum : ℤ). date_at xs k +ℤ sum) (sum_where_place (λ entry. int_lt entry.date (date_at xs k)) xs k (omega arith) (λ i before. lt_true (date_at xs i) (date_at xs k) (ascending_places xs up i k before within)) (λ i from below. lt_false (date_at xs i) (date_at xs k) (ascending_places_le xs up k i from below)))

-- ---- counts never fall
fall_by_places : (xs : List LeapEntry) → ascends int_lt (dates xs) ≡ true → (t later : ℤ) (m n : ℕ) → t ≤ℤ later → IsReached xs t m → IsReached xs later n → (t +ℤ sum_to xs m) ≤ℤ (later +ℤ sum_to xs n)
fall_by_places xs up t later m n upto first second =
    ⊎_elim
    (λ (more : m < n).
    let last : (m + (n - 1 - m)) + 1 ≡ n = omega arith in
    let place : m + (n - 1 - m) ≡ n - 1 = omega arith in
    let count : m + (n - m) ≡ n = omega arith in
    let sums : (sum_to xs m -ℤ pos (n - m)) ≤ℤ sum_to xs n = rw count at (sum_to_falls xs m (n - m) (omega (arith, second.within))) in
    let apart : (date_at xs m +ℤ pos (n - 1 - m)) ≤ℤ date_at xs (n - 1) = rw place at (dates_apart xs up m (n - 1 - m) (omega (arith, second.within))) in
    let low : t <ℤ date_at xs m = first.after m (omega arith) (omega (arith, second.within)) in
    let high : date_at xs (n - 1) ≤ℤ later = second.upto (n - 1) (omega arith) in
    omega (arith, ints))
    (λ (few : n ≤ m).
    ⊎_elim
    (λ (fewer : n < m). absurd (omega (arith, ints, first.upto n fewer, second.after n (omega arith) (omega (arith, first.within)))))
    (λ (back : m ≤ n). let same : m ≡ n = omega arith in rw same (omega (arith, ints)))
    (cases_lt n m))
    (cases_lt m n)

pub utc_count_never_falls : (xs : List LeapEntry) (t later : ℤ) → ascends int_lt (dates xs) ≡ true → t ≤ℤ later → utc_count xs t ≤ℤ utc_count xs later
utc_count_never_falls xs t later up upto =
    let first = reached_exists xs up t in
    let second = reached_exists xs up later in
    rw (utc_count_reached xs t first.0 first.1, utc_count_reached xs later second.0 second.1)
    (fall_by_places xs up t later first.0 second.0 upto first.1 second.1)

-- ---- counts rise where none is skipped
within_sign : (a b c : Bool) → c ≡ true → (a ≡ true → b ≡ true) → (if a then sign c else pos 0) ≤ℤ (if b then sign c else pos 0)
within_sign true true c is h = omega (arith, ints)
within_sign true false c is h = absurd (false_true false refl (h refl))
within_sign false true c is h = rw is (omega (arith, ints))
within_sign false false c is h = omega (arith, ints)

sum_where_le : (xs : List LeapEntry) (t later : ℤ) → All (λ entry. IsTrue entry.added) xs → t ≤ℤ later → sum_where (λ entry. int_le entry.date t) xs ≤ℤ sum_where (λ entry. int_le entry.date later) xs
sum_where_le [] t later all upto = omega (arith, ints)
sum_where_le (x ∷ xs) t later all upto =
    let rest = sum_where_le xs t later (λ k d within. all (suc k) d (omega arith)) upto in
    let here = within_sign (int_le x.date t) (int_le x.date later) x.added (all zero x (omega arith)) (λ before. le_true x.date later (omega (arith, ints, from_le x.date t before))) in
    omega (arith, ints, rest, here)

pub utc_count_rises : (xs : List LeapEntry) (t later : ℤ) → All (λ entry. IsTrue entry.added) xs → t <ℤ later → utc_count xs t <ℤ utc_count xs later
utc_count_rises xs t later all before = omega (arith, ints, sum_where_le xs t later all (omega (arith, ints)))

-- ---- added seconds are no system time's
inserted_apart : (xs : List LeapEntry) → ascends int_lt (dates xs) ≡ true → (t : ℤ) (k : ℕ) → k < length xs → added_at xs k ≡ true → inserted_second xs (date_at xs k) ≢ utc_count xs t
inserted_apart xs up t k within is same =
    let date = date_at xs k in
    let sides : date +ℤ sum_to xs k ≡ utc_count xs t = sym (inserted_second_at xs up k within) ∙ same in
    let one : sign (added_at xs k) ≡ pos 1 = rw is refl in
    by_lt_z t date
    (λ before. omega (arith, ints, sides, utc_count_before xs up k within, utc_count_never_falls xs t (date -ℤ pos 1) up (omega (arith, ints))))
    (λ after. omega (arith, ints, sides, one, utc_count_at xs up k within, utc_count_never_falls xs date t up after))

not_here : (added same : Bool) → (added ≡ true → same ≡ false) → (added && same) ≡ false
not_here true same h = h refl
not_here false same h = refl

pub not_inserted : (xs : List LeapEntry) → ascends int_lt (dates xs) ≡ true → (t : ℤ) → is_inserted xs (utc_count xs t) ≡ false
not_inserted xs up t =
    list_any_none (λ entry. entry.added && int_eq (inserted_second xs entry.date) (utc_count xs t)) xs
    (λ k d within. rw (get_or_default xs k d no_entry within) (not_here (added_at xs k) (int_eq (inserted_second xs (date_at xs k)) (utc_count xs t)) (λ is. eq_false (inserted_second xs (date_at xs k)) (utc_count xs t) (inserted_apart xs up t k within is))))

-- the place of an entry that is held back
pub place_of : (xs : List LeapEntry) (entry : LeapEntry) → Contains xs entry → (k : ℕ) × (k < length xs) × (entry_at xs k ≡ entry)
place_of xs entry has = (has.0, has.1, get_or_default xs has.0 no_entry entry has.1 ∙ has.2)

held_back_inserted : (xs : List LeapEntry) (u t : ℤ) → IsHeldBack xs u t → is_inserted xs u ≡ true
held_back_inserted xs u t held =
    let has = held.is_entry in
    list_any_at (λ entry. entry.added && int_eq (inserted_second xs entry.date) u) xs has.0 held.entry has.1
    (rw has.2 (rw held.is_added (eq_true (inserted_second xs held.entry.date) u (sym held.inserted))))

-- what is known of the place
record IsHeldAt (xs : List LeapEntry) (u t : ℤ) (k : ℕ) : Type 0 where
  within : k < length xs
  is_added : added_at xs k ≡ true
  inserted : u ≡ date_at xs k +ℤ sum_to xs k
  last_before : t ≡ date_at xs k -ℤ pos 1

held_at : (xs : List LeapEntry) (u t : ℤ) → ascends int_lt (dates xs) ≡ true → IsHeldBack xs u t → (k : ℕ) × IsHeldAt xs u t k
held_at xs u t up held =
    let place = place_of xs held.entry held.is_entry in
    let date : date_at xs place.0 ≡ held.entry.date = ap (λ (it : LeapEntry). it.date) place.2 in
    let added : added_at xs place.0 ≡ held.entry.added = ap (λ (it : LeapEntry). it.added) place.2 in (
      place.0,
      record {
        within = place.1;
        is_added = added ∙ held.is_added;
        inserted = held.inserted ∙ ap (inserted_second xs) (sym date) ∙ inserted_second_at xs up place.0 place.1;
        last_before = held.last_before ∙ ap (λ (it : ℤ). it -ℤ pos 1) (sym date);
      },
    )

-- of two added seconds the later entry has the later one
held_in_order : (xs : List LeapEntry) (u t other : ℤ) (i j : ℕ) → ascends int_lt (dates xs) ≡ true → i < j → IsHeldAt xs u t i → IsHeldAt xs u other j → ⊥
held_in_order xs u t other i j up before first second =
    let one : sign (added_at xs i) ≡ pos 1 = rw first.is_added refl in
    let rise = ascending_places xs up i j before second.within in
    omega (arith, ints, one, first.inserted, second.inserted, rise, utc_count_at xs up i first.within, utc_count_before xs up j second.within, utc_count_never_falls xs (date_at xs i) (date_at xs j -ℤ pos 1) up (omega (arith, ints, rise)))

held_once : (xs : List LeapEntry) (u t other : ℤ) (i j : ℕ) → ascends int_lt (dates xs) ≡ true → IsHeldAt xs u t i → IsHeldAt xs u other j → t ≡ other
held_once xs u t other i j up first second =
    ⊎_elim (λ (before : i < j). absurd (held_in_order xs u t other i j up before first second))
    (λ (from : j ≤ i).
    ⊎_elim (λ (after : j < i). absurd (held_in_order xs u other t j i up after second first))
    (λ (back : i ≤ j). let same : i ≡ j = omega arith in first.last_before ∙ ap (λ (k : ℕ). date_at xs k -ℤ pos 1) same ∙ sym second.last_before)
    (cases_lt j i))
    (cases_lt i j)

-- a UTC count has at most one system time
pub system_time_once : (xs : List LeapEntry) (u t other : ℤ) → ascends int_lt (dates xs) ≡ true → IsSystemTime xs u t → IsSystemTime xs u other → t ≡ other
system_time_once xs u t other up (inl held) (inl also) =
    let first = held_at xs u t up held in
    let second = held_at xs u other up also in
    held_once xs u t other first.0 second.0 up first.1 second.1
system_time_once xs u t other up (inl held) (inr counted) =
    absurd (false_true (is_inserted xs u) counted.not_inserted (held_back_inserted xs u t held))
system_time_once xs u t other up (inr counted) (inl held) =
    absurd (false_true (is_inserted xs u) counted.not_inserted (held_back_inserted xs u other held))
system_time_once xs u t other up (inr counted) (inr also) =
    omega (arith, ints, counted.greatest other also.count, also.greatest t counted.count)

-- ---- the entries that count at a UTC count are the first n
-- where an entry begins to count, by what the entries before it add
abbrev pub begin_of : Bool → ℤ → ℤ → ℤ
begin_of added date sum = (date +ℤ sum) -ℤ (if added then pos 0 else pos 1)

abbrev pub begin_at : List LeapEntry → ℕ → ℤ
begin_at xs k = begin_of (added_at xs k) (date_at xs k) (sum_to xs k)

pub record IsElapsed (xs : List LeapEntry) (u : ℤ) (n : ℕ) : Type 0 where
  pub within : n ≤ length xs
  pub upto : (k : ℕ) → k < n → begin_at xs k ≤ℤ u
  pub after : (k : ℕ) → n ≤ k → k < length xs → u <ℤ begin_at xs k

begin_by : (added : Bool) (date sum inserted count : ℤ) → inserted ≡ date +ℤ sum → count ≡ date +ℤ (sum +ℤ sign added) → (if added then inserted else count) ≡ begin_of added date sum
begin_by true date sum inserted count is are = omega (arith, ints)
begin_by false date sum inserted count is are = omega (arith, ints)

pub begin_is : (xs : List LeapEntry) → ascends int_lt (dates xs) ≡ true → (k : ℕ) → k < length xs → (if added_at xs k then inserted_second xs (date_at xs k) else utc_count xs (date_at xs k)) ≡ begin_at xs k
begin_is xs up k within =
    begin_by (added_at xs k) (date_at xs k) (sum_to xs k) (inserted_second xs (date_at xs k)) (utc_count xs (date_at xs k)) (inserted_second_at xs up k within) (utc_count_at xs up k within)

pub elapsed_by_place : (xs : List LeapEntry) → ascends int_lt (dates xs) ≡ true → (u : ℤ) (n : ℕ) → IsElapsed xs u n → elapsed_by xs u ≡ sum_to xs n
elapsed_by_place xs up u n elapsed =
    sum_where_place (counts_at xs u) xs n elapsed.within
    (λ k before. rw (begin_is xs up k (omega (arith, elapsed.within))) (le_true (begin_at xs k) u (elapsed.upto k before)))
    (λ k from below. rw (begin_is xs up k below) (le_false (begin_at xs k) u (elapsed.after k from below)))

begin_step : (a b : Bool) (date later sum next : ℤ) → date <ℤ later → next ≡ sum +ℤ sign a → begin_of a date sum ≤ℤ begin_of b later next
begin_step true true date later sum next before is = omega (arith, ints)
begin_step true false date later sum next before is = omega (arith, ints)
begin_step false true date later sum next before is = omega (arith, ints)
begin_step false false date later sum next before is = omega (arith, ints)

begins_rise : (xs : List LeapEntry) → ascends int_lt (dates xs) ≡ true → (i n : ℕ) → i + n < length xs → begin_at xs i ≤ℤ begin_at xs (i + n)
begins_rise xs up i zero within = let same : i + 0 ≡ i = omega arith in rw same (omega (arith, ints))
begins_rise xs up i (suc n) within =
    let next : i + suc n ≡ (i + n) + 1 = omega arith in
    let step = begin_step (added_at xs (i + n)) (added_at xs ((i + n) + 1)) (date_at xs (i + n)) (date_at xs ((i + n) + 1)) (sum_to xs (i + n)) (sum_to xs ((i + n) + 1)) (ascending_places xs up (i + n) ((i + n) + 1) (omega arith) (omega arith)) (sum_to_next xs (i + n) (omega arith)) in
    rw next (omega (arith, ints, begins_rise xs up i n (omega arith), step))

pub begins_in_order : (xs : List LeapEntry) → ascends int_lt (dates xs) ≡ true → (i j : ℕ) → i ≤ j → j < length xs → begin_at xs i ≤ℤ begin_at xs j
begins_in_order xs up i j upto within =
    let place : i + (j - i) ≡ j = omega arith in
    rw place at (begins_rise xs up i (j - i) (omega arith))

pub elapsed_exists : (xs : List LeapEntry) → ascends int_lt (dates xs) ≡ true → (u : ℤ) → (n : ℕ) × IsElapsed xs u n
elapsed_exists xs up u =
    let passes : ℕ → Bool = λ k. int_le (begin_at xs k) u in
    let found = place_between passes (length xs)
    (λ i j before below at. le_true (begin_at xs i) u (omega (arith, ints, from_le (begin_at xs j) u at, begins_in_order xs up i j (omega arith) below))) in (
      found.0,
      record {
        within = found.1;
        upto = λ k before. from_le (begin_at xs k) u (found.2 k before);
        after = λ k from below. from_not_le (begin_at xs k) u (found.3 k from below);
      },
    )

-- ---- the system time by that place
last_before : (added : Bool) (date sum next u : ℤ) → next ≡ sum +ℤ sign added → begin_of added date sum ≤ℤ u → (added ≡ true → begin_of added date sum <ℤ u) → date ≤ℤ (u -ℤ next)
last_before true date sum next u is upto past = omega (arith, ints, past refl)
last_before false date sum next u is upto past = omega (arith, ints)

first_after : (added : Bool) (date sum u : ℤ) → u <ℤ begin_of added date sum → (u -ℤ sum) <ℤ date
first_after true date sum u after = omega (arith, ints)
first_after false date sum u after = omega (arith, ints)

begin_low : (added : Bool) (date sum : ℤ) → begin_of added date sum ≤ℤ (date +ℤ (sum +ℤ sign added))
begin_low true date sum = omega (arith, ints)
begin_low false date sum = omega (arith, ints)

-- u is past the last of the added seconds that are at or before it
abbrev Past : List LeapEntry → ℤ → ℕ → Type 0
Past xs u n = (k : ℕ) → n ≡ k + 1 → added_at xs k ≡ true → begin_at xs k <ℤ u

last_reached : (xs : List LeapEntry) (u : ℤ) (n k : ℕ) → IsElapsed xs u n → Past xs u n → n ≡ k + 1 → date_at xs k ≤ℤ (u -ℤ sum_to xs n)
last_reached xs u n k elapsed past is =
    last_before (added_at xs k) (date_at xs k) (sum_to xs k) (sum_to xs n) u (ap (sum_to xs) is ∙ sum_to_next xs k (omega (arith, elapsed.within))) (elapsed.upto k (omega arith)) (past k is)

counted_reached : (xs : List LeapEntry) → ascends int_lt (dates xs) ≡ true → (u : ℤ) (n : ℕ) → IsElapsed xs u n → Past xs u n → IsReached xs (u -ℤ sum_to xs n) n
counted_reached xs up u n elapsed past =
    record {
      within = elapsed.within;
      upto = λ k before. omega (arith, ints, last_reached xs u n (n - 1) elapsed past (omega arith), ascending_places_le xs up k (n - 1) (omega arith) (omega (arith, elapsed.within)));
      after = λ k from below. omega (arith, ints, first_after (added_at xs n) (date_at xs n) (sum_to xs n) u (elapsed.after n (omega arith) (omega arith)), ascending_places_le xs up n k from below);
    }

-- no later system time has the count
none_beyond : (xs : List LeapEntry) (u t other : ℤ) (n m : ℕ) → IsElapsed xs u n → t ≡ u -ℤ sum_to xs n → IsReached xs t n → IsReached xs other m → other +ℤ sum_to xs m ≡ u → t <ℤ other → ⊥
none_beyond xs u t other n m elapsed is first second same beyond =
    ⊎_elim
    (λ (more : n < m).
    let last : (m - 1) + 1 ≡ m = omega arith in
    let next : sum_to xs m ≡ sum_to xs (m - 1) +ℤ sign (added_at xs (m - 1)) = rw last at (sum_to_next xs (m - 1) (omega (arith, second.within))) in
    omega (arith, ints, next, same, second.upto (m - 1) (omega arith), elapsed.after (m - 1) (omega arith) (omega (arith, second.within)), begin_low (added_at xs (m - 1)) (date_at xs (m - 1)) (sum_to xs (m - 1))))
    (λ (few : m ≤ n).
    ⊎_elim
    (λ (fewer : m < n). omega (arith, ints, beyond, first.upto m fewer, second.after m (omega arith) (omega (arith, first.within))))
    (λ (back : n ≤ m). let one : sum_to xs m ≡ sum_to xs n = ap (sum_to xs) (omega arith) in omega (arith, ints, one, same, is, beyond))
    (cases_lt m n))
    (cases_lt n m)

pub counted_place : (xs : List LeapEntry) → ascends int_lt (dates xs) ≡ true → (u : ℤ) (n : ℕ) → IsElapsed xs u n → Past xs u n → IsCounted xs u (u -ℤ sum_to xs n)
counted_place xs up u n elapsed past =
    let t = u -ℤ sum_to xs n in
    let reached = counted_reached xs up u n elapsed past in
    let count : utc_count xs t ≡ u = utc_count_reached xs t n reached ∙ omega (arith, ints) in
    record {
      not_inserted = rw (sym count) (not_inserted xs up t);
      count = count;
      greatest = λ other same.
          let found = reached_exists xs up other in
          by_lt_z t other
          (λ beyond. absurd (none_beyond xs u t other n found.0 elapsed refl reached found.1 (sym (utc_count_reached xs other found.0 found.1) ∙ same) beyond))
          (λ back. back);
    }

-- u is the last of them
held_back_place : (xs : List LeapEntry) → ascends int_lt (dates xs) ≡ true → (u : ℤ) (n k : ℕ) → n ≡ k + 1 → n ≤ length xs → added_at xs k ≡ true → begin_at xs k ≡ u → IsHeldBack xs u (u -ℤ sum_to xs n)
held_back_place xs up u n k next within is same =
    let here : k < length xs = omega arith in
    let one : sign (added_at xs k) ≡ pos 1 = rw is refl in
    let begins : begin_at xs k ≡ date_at xs k +ℤ sum_to xs k = rw is (omega (arith, ints)) in
    let sum : sum_to xs n ≡ sum_to xs k +ℤ sign (added_at xs k) = ap (sum_to xs) next ∙ sum_to_next xs k here in
    record {
      entry = entry_at xs k;
      is_entry = (k, here, get_or_default xs k (entry_at xs k) no_entry here);
      is_added = is;
      inserted = sym same ∙ begins ∙ sym (inserted_second_at xs up k here);
      last_before = omega (arith, ints, one, begins, sum, same);
    }

pub system_time_place : (xs : List LeapEntry) → ascends int_lt (dates xs) ≡ true → (u : ℤ) (n : ℕ) → IsElapsed xs u n → IsSystemTime xs u (u -ℤ sum_to xs n)
system_time_place xs up u zero elapsed = inr (counted_place xs up u zero elapsed (λ k h is. absurd (omega arith)))
system_time_place xs up u (suc k) elapsed =
    let next : suc k ≡ k + 1 = omega arith in
    ⊎_elim
    (λ (is : added_at xs k ≡ true).
    by_lt_z (begin_at xs k) u
    (λ past. inr (counted_place xs up u (suc k) elapsed (λ i h added. let same : i ≡ k = omega arith in rw same past)))
    (λ last. inl (held_back_place xs up u (suc k) k next elapsed.within is (omega (arith, ints, elapsed.upto k (omega arith))))))
    (λ (not : added_at xs k ≡ false).
    inr (counted_place xs up u (suc k) elapsed (λ i h added. let same : i ≡ k = omega arith in absurd (false_true (added_at xs k) not (rw same at added)))))
    (cases_Bool (added_at xs k))

-- each UTC count has a system time
pub system_time_exists : (xs : List LeapEntry) (u : ℤ) → ascends int_lt (dates xs) ≡ true → (t : ℤ) × IsSystemTime xs u t
system_time_exists xs u up =
    let found = elapsed_exists xs up u in
    (u -ℤ sum_to xs found.0, system_time_place xs up u found.0 found.1)

-- which is the only one
pub system_time_is : (xs : List LeapEntry) → ascends int_lt (dates xs) ≡ true → (u t : ℤ) (n : ℕ) → IsElapsed xs u n → IsSystemTime xs u t → t ≡ u -ℤ sum_to xs n
system_time_is xs up u t n elapsed is =
    system_time_once xs u t (u -ℤ sum_to xs n) up is (system_time_place xs up u n elapsed)

-- a count is its system time and what elapsed
pub count_is_time_and_elapsed : (xs : List LeapEntry) (u t : ℤ) → ascends int_lt (dates xs) ≡ true → IsSystemTime xs u t → u ≡ t +ℤ elapsed_by xs u
count_is_time_and_elapsed xs u t up is =
    let found = elapsed_exists xs up u in
    omega (arith, ints, elapsed_by_place xs up u found.0 found.1, system_time_is xs up u t found.0 found.1 is)

-- the system time of a count that system times share
pub shared_time : (xs : List LeapEntry) (t time : ℤ) → ascends int_lt (dates xs) ≡ true → IsSystemTime xs (utc_count xs t) time → (utc_count xs time ≡ utc_count xs t) × (t ≤ℤ time)
shared_time xs t time up (inl held) =
    absurd (false_true (is_inserted xs (utc_count xs t)) (not_inserted xs up t) (held_back_inserted xs (utc_count xs t) time held))
shared_time xs t time up (inr counted) = (counted.count, counted.greatest t refl)

-- only an added second has none
pub inserted_without : (xs : List LeapEntry) (u : ℤ) → ascends int_lt (dates xs) ≡ true → ((t : ℤ) → utc_count xs t ≡ u → ⊥) → is_inserted xs u ≡ true
inserted_without xs u up without =
    let found = system_time_exists xs u up in
    ⊎_elim (λ (held : IsHeldBack xs u found.0). held_back_inserted xs u found.0 held)
    (λ (counted : IsCounted xs u found.0). absurd (without found.0 counted.count))
    found.1

pub without_inserted : (xs : List LeapEntry) (u : ℤ) → ascends int_lt (dates xs) ≡ true → is_inserted xs u ≡ true → (t : ℤ) → utc_count xs t ≡ u → ⊥
without_inserted xs u up inserted t same =
    false_true (is_inserted xs u) (rw (sym same) (not_inserted xs up t)) inserted

-- the UTC count is an added second where the last of those that count at it is it
pub inserted_place : (xs : List LeapEntry) → ascends int_lt (dates xs) ≡ true → (u : ℤ) (n k : ℕ) → IsElapsed xs u n → n ≡ k + 1 → (added_at xs k && int_eq (date_at xs k) (u -ℤ sum_to xs k)) ≡ is_inserted xs u
inserted_place xs up u n k elapsed next =
    ⊎_elim
    (λ (is : added_at xs k ≡ true).
    let begins : begin_at xs k ≡ date_at xs k +ℤ sum_to xs k = rw is (omega (arith, ints)) in
    by_lt_z (begin_at xs k) u
    (λ past.
    let other : int_eq (date_at xs k) (u -ℤ sum_to xs k) ≡ false = eq_false (date_at xs k) (u -ℤ sum_to xs k) (λ same. omega (arith, ints, past, same, begins)) in
    rw (is, other) (sym (counted_place xs up u n elapsed (λ i h added. let same : i ≡ k = omega arith in rw same past)).not_inserted))
    (λ last.
    let same : begin_at xs k ≡ u = omega (arith, ints, elapsed.upto k (omega arith)) in
    let here : int_eq (date_at xs k) (u -ℤ sum_to xs k) ≡ true = eq_true (date_at xs k) (u -ℤ sum_to xs k) (omega (arith, ints, same, begins)) in
    rw (is, here) (sym (held_back_inserted xs u (u -ℤ sum_to xs n) (held_back_place xs up u n k next elapsed.within is same)))))
    (λ (not : added_at xs k ≡ false).
    rw not (sym (counted_place xs up u n elapsed (λ i h added. let same : i ≡ k = omega arith in absurd (false_true (added_at xs k) not (rw same at added)))).not_inserted))
    (cases_Bool (added_at xs k))

pub none_inserted : (xs : List LeapEntry) → ascends int_lt (dates xs) ≡ true → (u : ℤ) → IsElapsed xs u 0 → is_inserted xs u ≡ false
none_inserted xs up u elapsed = (counted_place xs up u 0 elapsed (λ k h is. absurd (omega arith))).not_inserted

-- ---- the ranges of the clocks
abbrev LieInTime : List LeapEntry → Type 0
LieInTime xs = All (λ entry. (first_instant <ℤ entry.date) × (entry.date <ℤ end_of_time)) xs

reached_first : (xs : List LeapEntry) → LieInTime xs → IsReached xs first_instant 0
reached_first xs all =
    record {
      within = omega arith;
      upto = λ k before. absurd (omega arith);
      after = λ k from below. (all k no_entry below).0;
    }

reached_last : (xs : List LeapEntry) → LieInTime xs → IsReached xs (end_of_time -ℤ pos 1) (length xs)
reached_last xs all =
    record {
      within = omega arith;
      upto = λ k before. omega (arith, ints, (all k no_entry before).1);
      after = λ k from below. absurd (omega arith);
    }

pub utc_count_in_range : (xs : List LeapEntry) (t : ℤ) → ascends int_lt (dates xs) ≡ true → LieInTime xs → IsInstant t → IsUtcCount xs (utc_count xs t)
utc_count_in_range xs t up all is = (
  omega (arith, ints, sum_to_none xs, utc_count_reached xs first_instant 0 (reached_first xs all), utc_count_never_falls xs first_instant t up is.0),
  omega (arith, ints, all_seconds_are xs, utc_count_reached xs (end_of_time -ℤ pos 1) (length xs) (reached_last xs all), utc_count_never_falls xs t (end_of_time -ℤ pos 1) up (omega (arith, ints, is.1))),
)

back_one : (added : Bool) (date sum next u : ℤ) → next ≡ sum +ℤ sign added → begin_of added date sum ≤ℤ u → date ≤ℤ ((u -ℤ next) +ℤ pos 1)
back_one true date sum next u is upto = omega (arith, ints)
back_one false date sum next u is upto = omega (arith, ints)

instant_low : (xs : List LeapEntry) (u : ℤ) (n : ℕ) → LieInTime xs → IsUtcCount xs u → IsElapsed xs u n → first_instant ≤ℤ (u -ℤ sum_to xs n)
instant_low xs u zero all is elapsed = omega (arith, ints, sum_to_none xs, is.0)
instant_low xs u (suc k) all is elapsed =
    let here : k < length xs = omega (arith, elapsed.within) in
    omega (arith, ints, back_one (added_at xs k) (date_at xs k) (sum_to xs k) (sum_to xs (suc k)) u (sum_to_suc xs k here) (elapsed.upto k (omega arith)), (all k no_entry here).0)

instant_high : (xs : List LeapEntry) (u : ℤ) (n : ℕ) → LieInTime xs → IsUtcCount xs u → IsElapsed xs u n → (u -ℤ sum_to xs n) <ℤ end_of_time
instant_high xs u n all is elapsed =
    ⊎_elim (λ (later : n < length xs). omega (arith, ints, first_after (added_at xs n) (date_at xs n) (sum_to xs n) u (elapsed.after n (omega arith) later), (all n no_entry later).1))
    (λ (none : length xs ≤ n). let one : sum_to xs n ≡ sum_to xs (length xs) = ap (sum_to xs) (omega (arith, elapsed.within)) in omega (arith, ints, is.1, one, all_seconds_are xs))
    (cases_lt n (length xs))

pub system_time_in_range : (xs : List LeapEntry) (u t : ℤ) → ascends int_lt (dates xs) ≡ true → LieInTime xs → IsUtcCount xs u → IsSystemTime xs u t → IsInstant t
system_time_in_range xs u t up all in_range is =
    let found = elapsed_exists xs up u in
    let same : t ≡ u -ℤ sum_to xs found.0 = system_time_is xs up u t found.0 found.1 is in
    rw same (instant_low xs u found.0 all in_range found.1, instant_high xs u found.0 all in_range found.1)
