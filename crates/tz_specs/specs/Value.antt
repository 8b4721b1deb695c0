-- The values of the fields of zone texts, after zic(8), "Rule lines" and "Zone lines".
use Rattle.std.specs.Prelude.{ℕ, ◌==◌, nat_le, nat_lt, nat_eq, Bool, false, not, ◌&&◌, ◌||◌, if◌then◌else◌, List, [], ◌∷◌, length, codes, slice_get, slice_index_or, ℤ, pos, unsigned_abs, int_lt, Option, Some, None, option_map}
use Rattle.std.specs.List.{list_all, list_any}
use Rattle.std.specs.Ordering.{int_eq}
use Rattle.std.specs.Cmp.Lexicographic.{pointwise}
use Rattle.tz_types.specs.Amount.{is_shift}
use Rattle.tz_types.specs.declared.limit.TheConstants.{LONGEST_NAME, LAST_RULE_YEAR, LAST_WRITTEN_YEAR}
use Rattle.tz_types.specs.Text.{is_printable}
use Rattle.tz_types.specs.Calendar.{has_day, has_day_through}
use Rattle.tz_types.specs.declared.calendar.Month.{Month}
use Rattle.tz_types.specs.declared.calendar.Month.TheVariants as months
use Rattle.tz_types.specs.declared.calendar.On.{On}
use Rattle.tz_types.specs.declared.moment.AtKind.{AtKind}
use Rattle.tz_types.specs.declared.moment.AtKind.TheVariants as kinds
use Rattle.tz_types.specs.declared.format.Format.{Format}
use Rattle.tz_types.specs.declared.format.Format.TheVariants as formats
use Rattle.tz_specs.specs.Choice.{◌>>=◌, only_if}
use Rattle.tz_specs.specs.Parts.{parts_at}
use Rattle.tz_specs.specs.Word.{named_entry, is_empty}
use Rattle.tz_specs.specs.Number.{year_of, is_digit, minus}
use Rattle.tz_specs.specs.Amount.{amount_of}
use Rattle.tz_specs.specs.Day.{on_of, or_else}
use Rattle.tz_specs.specs.Written.{WrittenRules, NoRules, FixedSave, RulesNamed}

-- the field with that place, from 0, or what stands for it where it is missing
abbrev pub field_or : List ℕ → ℕ → List (List ℕ) → List ℕ
field_or missing place fields = slice_index_or fields place missing

-- the same where a field that is missing has no bytes
abbrev pub field_at : ℕ → List (List ℕ) → List ℕ
field_at place fields = field_or [] place fields

-- the field has exactly these bytes
abbrev pub is_exactly : List ℕ → List ℕ → Bool
is_exactly field bytes = pointwise nat_eq field bytes

-- `-` stands for no rules, for no letters, and for a field that is reserved
abbrev pub is_dash : List ℕ → Bool
is_dash field = is_exactly field (codes "-")

abbrev pub month_table : List ℕ
month_table =
    codes "January February March April May June July August September October November December"

abbrev pub all_months : List Month
all_months =
    months.January ∷ months.February ∷ months.March ∷ months.April ∷ months.May ∷ months.June ∷ months.July ∷ months.August ∷ months.September ∷ months.October ∷ months.November ∷ months.December ∷ []

-- the month that the word names
unfoldable pub month_named : List ℕ → Option Month
month_named word = named_entry word month_table >>= λ place. slice_get all_months place

-- a year from -LAST_RULE_YEAR to LAST_RULE_YEAR
abbrev pub rule_year_of : List ℕ → Option ℤ
rule_year_of field = year_of field >>= λ year. only_if (nat_le (unsigned_abs year) LAST_RULE_YEAR) year

-- TO as a word: `maximum` is a year after all others, `minimum` isn't built, and `only` is FROM
abbrev pub last_year_table : List ℕ
last_year_table = codes "maximum minimum only"

abbrev pub last_year_named : ℤ → List ℕ → Option ℤ
last_year_named from word =
    named_entry word last_year_table >>= λ place. slice_index_or (Some (pos LAST_WRITTEN_YEAR) ∷ None ∷ Some from ∷ []) place None

-- FROM and TO: two years, where TO may be a word
unfoldable pub years_of : List ℕ → List ℕ → Option (ℤ × ℤ)
years_of from_field to_field = do
  from ← year_of from_field
  to ← or_else (year_of to_field) (last_year_named from to_field)
  Some (from, to)

-- TO is below FROM
abbrev pub fall : Option (ℤ × ℤ) → Bool
fall None = false
fall (Some years) = int_lt years.1 years.0

-- the day of a rule, which the month has in each of the years
unfoldable pub rule_day_of : Option (ℤ × ℤ) → Option Month → List ℕ → Option On
rule_day_of years month field = do
  span ← years
  name ← month
  on ← on_of field
  only_if (has_day_through span.0 span.1 name on) on

-- the day of an UNTIL, which the month has in that year
unfoldable pub until_day_of : Option ℤ → Option Month → List ℕ → Option On
until_day_of year month field = do
  number ← year
  name ← month
  on ← on_of field
  only_if (has_day number name on) on

-- which clock a time is read from, by the letter behind it
abbrev pub kind_of : ℕ → AtKind
kind_of suffix =
    if suffix == 0x73 then kinds.Standard
    else (if (suffix == 0x75) || (suffix == 0x67) || (suffix == 0x7a) then kinds.Universal else kinds.Wall)

-- a time of day, with `w`, `s`, `u`, `g` or `z` behind it or nothing
abbrev pub time_of : List ℕ → Option (ℤ × AtKind)
time_of field = option_map (λ amount. (amount.0, kind_of amount.1)) (amount_of (codes "wsugz") field)

-- a standard offset
abbrev pub stdoff_of : List ℕ → Option ℤ
stdoff_of field = amount_of [] field >>= λ amount. only_if (is_shift amount.0) amount.0

-- whether a save makes daylight time: as the letter says, and without one where there is a save
abbrev pub is_daylight : ℤ × ℕ → Bool
is_daylight amount = if amount.1 == 0 then not (int_eq amount.0 (pos 0)) else (amount.1 == 0x64)

-- a save, with `s` or `d` behind it or nothing, and whether it makes daylight time
abbrev pub save_of : List ℕ → Option (ℤ × Bool)
save_of field = amount_of (codes "sd") field >>= λ amount. only_if (is_shift amount.0) (amount.0, is_daylight amount)

-- no bytes, or one that isn't visible
abbrev pub is_bad_name : List ℕ → Bool
is_bad_name field = is_empty field || not (list_all is_printable field)

-- a name has more bytes than it may have
abbrev pub is_long_name : List ℕ → Bool
is_long_name field = nat_lt LONGEST_NAME (length field)

-- an amount starts with a digit, `-` or `+`, and the name of a rule doesn't
abbrev pub starts_amount : List ℕ → Bool
starts_amount [] = false
starts_amount (byte ∷ bytes) = is_digit byte || (byte == minus) || (byte == 0x2b)

-- RULES is the name of a rule set
abbrev pub names_set : List ℕ → Bool
names_set field = not (starts_amount field)

-- RULES: `-` for none, an amount, or the name of a rule set
abbrev pub rules_of : List ℕ → Option WrittenRules
rules_of field =
    if is_dash field then Some NoRules
    else (if names_set field then Some (RulesNamed field)
    else option_map (λ save. FixedSave save.0 save.1) (save_of field))

-- the letters of a rule
abbrev pub letters_of : List ℕ → List ℕ
letters_of field = if is_dash field then [] else field

-- a format without `%`: the abbreviation itself, or a pair with `/` between
abbrev pub plain_format_of : List (List ℕ) → Option Format
plain_format_of [] = None
plain_format_of (text ∷ []) = Some (formats.Text text)
plain_format_of (standard ∷ daylight ∷ []) =
    only_if (not (is_empty standard) && not (is_empty daylight)) (formats.Pair standard daylight)
plain_format_of (standard ∷ daylight ∷ other ∷ parts) = None

-- what stands on both sides of a `%` which `s` or `z` follows; there is no `/`
abbrev pub marked_format_of : List ℕ → List ℕ → Option Format
marked_format_of before [] = None
marked_format_of before (letter ∷ after) =
    if list_any (λ byte. byte == 0x2f) before || list_any (λ byte. byte == 0x2f) after then None
    else (if letter == 0x73 then Some (formats.Letters before after)
    else (if letter == 0x7a then Some (formats.Offset before after) else None))

-- a format by its parts round each `%`
abbrev pub format_of_parts : List (List ℕ) → Option Format
format_of_parts [] = None
format_of_parts (text ∷ []) = plain_format_of (parts_at 0x2f text)
format_of_parts (before ∷ after ∷ []) = marked_format_of before after
format_of_parts (before ∷ after ∷ other ∷ parts) = None

-- a format of any length, of visible bytes
unfoldable pub format_of : List ℕ → Option Format
format_of field = only_if (not (is_bad_name field)) field >>= λ text. format_of_parts (parts_at 0x25 text)
