-- Offsets as `%z` writes them are read back, and no shorter text is read as the same.
use Rattle.std.proofs.Common.{rules, ◌≡◌, Some, None, ℕ, ◌<◌, ◌≤◌, ◌==◌, if◌then◌else◌, length, true, List, [], ◌∷◌, ℤ, pos, neg_ℤ, unsigned_abs, Option, option_map}
use Rattle.std.specs.List.{list_all}
use Rattle.tz_specs.specs.Number.{is_digit}
use Rattle.tz_specs.specs.Abbreviation.{clock_text, offset_text}
use Rattle.tz_zone_laws.specs.OffsetWritten.{seconds_counted, seconds_written, offset_written}

-- what is written of a size are digits
all_are_digits : (size : ℕ) → size < 360_000 → list_all is_digit (clock_text size) ≡ true
all_are_digits size small = search rules

-- what is written of a size is counted as the size
counted : (size : ℕ) → size < 360_000 → seconds_counted (clock_text size) ≡ Some size
counted size small = search rules

pub written : (size : ℕ) → size < 360_000 → seconds_written (clock_text size) ≡ Some size
written size small = rw (all_are_digits size small) (counted size small)

-- a text that is read as a size is no shorter than what is written of it
no_shorter : (size : ℕ) (digits : List ℕ) → seconds_counted digits ≡ Some size → length (clock_text size) ≤ length digits
no_shorter size digits is = search rules

-- what is read behind the sign is the size of the offset
size_read : (offset : ℤ) (sign : ℕ) (size : Option ℕ) → (if sign == 0x2b then option_map pos size else if sign == 0x2d then option_map (λ seconds. neg_ℤ (pos seconds)) size else None) ≡ Some offset → size ≡ Some (unsigned_abs offset)
size_read offset sign size is = search rules

-- and so is the count of its digits
count_read : (size : ℕ) (digits : List ℕ) → seconds_written digits ≡ Some size → seconds_counted digits ≡ Some size
count_read size digits is = search rules

pub no_shorter_text : (offset : ℤ) (other : List ℕ) → offset_written other ≡ Some offset → length (offset_text offset) ≤ length other
no_shorter_text offset [] is = search rules
no_shorter_text offset (sign ∷ digits) is =
    let low : length (clock_text (unsigned_abs offset)) ≤ length digits = no_shorter (unsigned_abs offset) digits (count_read (unsigned_abs offset) digits (size_read offset sign (seconds_written digits) is)) in
    search rules
