-- The operands of operations, each a word.
use Rattle.std.specs.Prelude.{ℕ, ◌==◌, nat_le, Bool, false, not, ◌&&◌, if◌then◌else◌, List, [], ◌∷◌, length, codes, find, ℤ, Option, Some, None, option_map}
use Rattle.std.specs.List.{list_all}
use Rattle.tz_types.specs.Civil.{is_from_to}
use Rattle.tz_types.specs.Text.{is_printable}
use Rattle.tz_types.specs.declared.limit.TheConstants.{LONGEST_NAME}
use Rattle.tz_types.specs.declared.range.Choose.{Choose}
use Rattle.tz_types.specs.declared.range.Choose.TheVariants.{Earliest, Latest}
use Rattle.tz_specs.specs.Choice.{◌>>=◌, only_if}
use Rattle.tz_specs.specs.Number.{number_of, signed_number_of}
use Rattle.tz_specs.specs.Value.{is_exactly}
use Rattle.tz_lookup.specs.Conversion.{conversion_word}
use Rattle.tz_lookup.specs.declared.conversion.Conversion.{Conversion}
use Rattle.tz_lookup.specs.declared.conversion.Conversion.TheVariants as conversions
use Rattle.tz_script.specs.HoldName.{is_front, is_hold_name}
use Rattle.tz_script.specs.declared.limit.TheConstants.{MOST_LANES}
use Rattle.tz_script.specs.declared.operation.Pick.{Pick}
use Rattle.tz_script.specs.declared.operation.Pick.TheVariants.{Front, Held}

-- the name of a hold
abbrev pub hold_name_of : List ℕ → Option (List ℕ)
hold_name_of word = only_if (is_hold_name word) word

-- the version that a word picks: `front`, or the name of a hold
abbrev pub pick_of : List ℕ → Option Pick
pick_of word = if is_front word then Some Front else option_map Held (hold_name_of word)

-- The name of a zone: a word of at most 255 bytes. A word before a comment has a byte, and none but visible ones.
abbrev pub zone_name_of : List ℕ → Option (List ℕ)
zone_name_of word =
    only_if (nat_le 1 (length word) && nat_le (length word) LONGEST_NAME && list_all is_printable word) word

-- a number with an optional `-` and at most 15 digits
abbrev pub signed_of : List ℕ → Option ℤ
signed_of word = signed_number_of 1 15 word

-- a number of at most 10 digits, from a number to another
abbrev pub counted_of : ℕ → ℕ → List ℕ → Option ℕ
counted_of low high word = number_of 1 10 word >>= λ number. only_if (is_from_to low high number) number

-- Which instant to take of a local time that stands for two. `strict` takes none.
abbrev pub choice_of : List ℕ → Option (Option Choose)
choice_of word =
    if is_exactly word (codes "strict") then Some None
    else (if is_exactly word (codes "earliest") then Some (Some Earliest)
    else (if is_exactly word (codes "latest") then Some (Some Latest)
    else None))

-- every conversion
abbrev pub all_conversions : List Conversion
all_conversions =
    conversions.SysToUtc ∷ conversions.UtcToSys ∷ conversions.UtcInfo ∷ conversions.UtcToTai ∷ conversions.TaiToUtc
    ∷ conversions.UtcToGps ∷ conversions.GpsToUtc ∷ []

-- the conversion that a word names
abbrev pub conversion_of : List ℕ → Option Conversion
conversion_of word = find (λ conversion. is_exactly word (conversion_word conversion)) all_conversions

-- the word `lanes`
abbrev pub lanes_word_of : List ℕ → Option (List ℕ)
lanes_word_of word = only_if (is_exactly word (codes "lanes")) word

-- the first byte is `0`
abbrev pub begins_with_zero : List ℕ → Bool
begins_with_zero [] = false
begins_with_zero (byte ∷ bytes) = byte == 0x30

-- how many lanes there are: at least 1 and not too many, without leading zeros
abbrev pub lane_count_of : List ℕ → Option ℕ
lane_count_of word = only_if (not (begins_with_zero word)) word >>= counted_of 1 MOST_LANES
