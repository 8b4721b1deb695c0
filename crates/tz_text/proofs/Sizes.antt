-- An amount's size by its first part and what follows.
use Rattle.std.proofs.Common.{◌≡◌, ℕ, ◌+◌, ◌*◌, ◌-◌, ◌<◌, ◌≤◌, Bool, true, false, if◌then◌else◌, List, [], ◌∷◌, length, get_or, Option, Some, None, option_map, refl, ap, arith}
use Rattle.std.specs.List.{list_all}
use mathlib.Core.Logic.{⊎_elim}
use Rattle.std.proofs.lemmas.Bool.{cases_Bool}
use Rattle.tz_specs.specs.Choice.{◌>>=◌, only_if}
use Rattle.tz_specs.specs.Parts.{parts_at}
use Rattle.tz_specs.specs.Number.{is_digit, number_of, are_digits}
use Rattle.tz_specs.specs.Amount.{Length, rounded, clock_of, size_of, part_up_to, seconds_of}
use Rattle.tz_text.specs.Sizes.{added, seconds_of_hours, seconds_of_minutes, rounded_seconds_of, last_seconds_of, clock_seconds_of}
use Rattle.tz_text.proofs.Marks.{one_part, digits_unmarked, no_point, no_colon, parts_are}

-- an even number more changes no rounding
pub rounded-more : (half whole : ℕ) (fraction : List ℕ) → rounded (record { whole = 2 * half + whole; fraction = fraction }) ≡ 2 * half + rounded (record { whole = whole; fraction = fraction })
rounded-more half whole fraction = grind arith

pub rounded-clock : (h m : ℕ) (s : Length) → rounded (record { whole = 3600 * h + 60 * m + s.whole; fraction = s.fraction }) ≡ 3600 * h + (60 * m + rounded s)
rounded-clock h m s =
    let even : 3600 * h + 60 * m + s.whole ≡ 2 * (1800 * h + 30 * m) + s.whole = omega arith in
    let more : rounded (record { whole = 2 * (1800 * h + 30 * m) + s.whole; fraction = s.fraction }) ≡ 2 * (1800 * h + 30 * m) + rounded s = rounded-more (1800 * h + 30 * m) s.whole s.fraction in
    rw (even, more) (omega arith)

only_hours : (h : Option ℕ) → option_map rounded (option_map (λ h. record { whole = 3600 * h; fraction = [] }) h) ≡ option_map (λ h. 3600 * h) h
only_hours None = refl
only_hours (Some h) = refl

hours_minutes : (h m : Option ℕ) → option_map rounded (h >>= λ h. m >>= λ m. Some (record { whole = 3600 * h + 60 * m; fraction = [] })) ≡ added (option_map (λ h. 3600 * h) h) (option_map (λ m. 60 * m) m)
hours_minutes None m = refl
hours_minutes (Some h) None = refl
hours_minutes (Some h) (Some m) = refl

whole_clock : (h m : Option ℕ) (s : Option Length) → option_map rounded (h >>= λ h. m >>= λ m. s >>= λ s. Some (record { whole = 3600 * h + 60 * m + s.whole; fraction = s.fraction })) ≡ added (option_map (λ h. 3600 * h) h) (added (option_map (λ m. 60 * m) m) (option_map rounded s))
whole_clock None m s = refl
whole_clock (Some h) None s = refl
whole_clock (Some h) (Some m) None = refl
whole_clock (Some h) (Some m) (Some s) = ap Some (rounded-clock h m s)

nothing_added : (h m : Option ℕ) → None ≡ added h (added m None)
nothing_added None m = refl
nothing_added (Some h) None = refl
nothing_added (Some h) (Some m) = refl

clock_is : (parts : List (List ℕ)) → option_map rounded (clock_of parts) ≡ clock_seconds_of parts
clock_is [] = refl
clock_is (h ∷ []) = only_hours (number_of 1 3 h)
clock_is (h ∷ m ∷ []) = hours_minutes (number_of 1 3 h) (part_up_to 59 m)
clock_is (h ∷ m ∷ s ∷ []) = whole_clock (number_of 1 3 h) (part_up_to 59 m) (seconds_of (parts_at 0x2e s))
clock_is (h ∷ m ∷ s ∷ other ∷ parts) = nothing_added (seconds_of_hours h) (seconds_of_minutes m)

pub size_is : (word : List ℕ) → size_of word ≡ clock_seconds_of (parts_at 0x3a word)
unfolding size_of
size_is word = clock_is (parts_at 0x3a word)

-- hours alone

hours_alone : (word : List ℕ) → list_all is_digit word ≡ true → size_of word ≡ seconds_of_hours word
hours_alone word digits = rw (size_is word, digits_unmarked 0x3a word no_colon digits) refl

-- the number that a digit writes
digit_read : (byte value : ℕ) (digit : Bool) → is_digit byte ≡ digit → Some value ≡ (if digit then Some (byte - 0x30) else None) → (is_digit byte ≡ true) × (value ≡ byte - 0x30)
digit_read byte value true is read = (is, cc)
digit_read byte value false is read = cc

pub one_digit : (word : List ℕ) (ones : ℕ) → 1 ≤ length word → length word < 2 → Some ones ≡ (if is_digit (get_or word 0 0) then Some (get_or word 0 0 - 0x30) else None) → size_of word ≡ Some (3600 * ones)
unfolding number_of
one_digit [] ones some few first = absurd (omega arith)
one_digit (byte ∷ []) ones some few first =
    let one = digit_read byte ones (is_digit byte) refl first in
    let alone = hours_alone (byte ∷ []) (rw one.0 refl) in
    rw alone (rw one.0 (ap Some (omega (arith, one.1))))
one_digit (byte ∷ other ∷ word) ones some few first = absurd (omega arith)

pub two_digits : (word : List ℕ) (tens ones : ℕ) → 2 ≤ length word → length word < 3 → Some tens ≡ (if is_digit (get_or word 0 0) then Some (get_or word 0 0 - 0x30) else None) → Some ones ≡ (if is_digit (get_or word 1 0) then Some (get_or word 1 0 - 0x30) else None) → size_of word ≡ Some (3600 * (10 * tens + ones))
unfolding number_of
two_digits [] tens ones some few first second = absurd (omega arith)
two_digits (byte ∷ []) tens ones some few first second = absurd (omega arith)
two_digits (byte ∷ next ∷ []) tens ones some few first second =
    let ten = digit_read byte tens (is_digit byte) refl first in
    let one = digit_read next ones (is_digit next) refl second in
    let alone = hours_alone (byte ∷ next ∷ []) (rw (ten.0, one.0) refl) in
    rw alone (rw (ten.0, one.0) (ap Some (omega (arith, ten.1, one.1))))
two_digits (byte ∷ next ∷ other ∷ word) tens ones some few first second = absurd (omega arith)

rounded_if : (test : Bool) (size : Length) → option_map rounded (only_if test size) ≡ only_if test (rounded size)
rounded_if true size = refl
rounded_if false size = refl

point_cut : (front behind : List ℕ) (whole : ℕ) (parts : List (List ℕ)) → parts_at 0x2e behind ≡ parts → 0 < length parts → part_up_to 60 front ≡ Some whole → option_map rounded (seconds_of (front ∷ parts)) ≡ only_if (are_digits 1 12 behind) (rounded (record { whole = whole; fraction = behind }))
point_cut front behind whole [] are more seconds = absurd (omega arith)
point_cut front behind whole (part ∷ []) are more seconds =
    let one : behind ≡ part = one_part 0x2e behind part are in
    rw (seconds, one) (rounded_if (are_digits 1 12 part) (record { whole = whole; fraction = part }))
point_cut front behind whole (part ∷ other ∷ parts) are more seconds =
    ⊎_elim (λ (digits : are_digits 1 12 behind ≡ true).
    let all : list_all is_digit behind ≡ true = grind arith in
    let one : parts_at 0x2e behind ≡ behind ∷ [] = digits_unmarked 0x2e behind no_point all in
    absurd (cc))
    (λ (none : are_digits 1 12 behind ≡ false). rw none refl) (cases_Bool (are_digits 1 12 behind))

pub seconds_cut : (word front behind : List ℕ) (whole : ℕ) → parts_at 0x2e word ≡ front ∷ parts_at 0x2e behind → part_up_to 60 front ≡ Some whole → rounded_seconds_of word ≡ only_if (are_digits 1 12 behind) (rounded (record { whole = whole; fraction = behind }))
seconds_cut word front behind whole cut seconds =
    rw cut (point_cut front behind whole (parts_at 0x2e behind) refl (parts_are 0x2e behind) seconds)

none_of : (front : List ℕ) (parts : List (List ℕ)) → 0 < length parts → last_seconds_of (front ∷ parts) ≡ None
none_of front [] more = absurd (omega arith)
none_of front (part ∷ parts) more = refl

pub last_seconds_none : (front behind : List ℕ) → last_seconds_of (front ∷ parts_at 0x3a behind) ≡ None
last_seconds_none front behind = none_of front (parts_at 0x3a behind) (parts_are 0x3a behind)
