-- Lines of leap texts, after zic(8), "Leap lines". Each is blank, or a record: `Leap YEAR MONTH DAY 23:59:60 + S` says that
-- a second is added at the end of that day, `Leap YEAR MONTH DAY 23:59:59 - S` that its last one is skipped, and
-- `Expires YEAR MONTH DAY HH:MM:SS` from which moment on the table isn't known to hold. The date of a leap second is the
-- midnight that follows the day.
use Rattle.std.specs.Prelude.{ℕ, ◌+◌, ◌*◌, nat_le, nat_eq, Bool, true, false, not, ◌==◌, ◌||◌, if◌then◌else◌, List, [], ◌∷◌, ◌++◌, length, codes, slice_get, ℤ, pos, ◌+ℤ◌, ◌*ℤ◌, Option, Some, None, option_map, Result}
use Rattle.std.specs.Option.{is_none}
use Rattle.jiff_core.specs.Calendar.{days_from_civil, days_in_month}
use Rattle.tz_types.specs.Calendar.{month_number, is_day_up_to}
use Rattle.tz_types.specs.declared.limit.TheConstants.{MOST_LEAPS}
use Rattle.tz_types.specs.declared.calendar.Month.{Month}
use Rattle.tz_types.specs.declared.cause.Cause.{Cause}
use Rattle.tz_types.specs.declared.cause.Cause.TheVariants as causes
use Rattle.tz_types.specs.declared.leap_entry.LeapEntry.{LeapEntry}
use Rattle.tz_specs.specs.Field.{fields_of}
use Rattle.tz_specs.specs.Choice.{◌>>=◌, only_if}
use Rattle.tz_specs.specs.Parts.{parts_at}
use Rattle.tz_specs.specs.Number.{number_of}
use Rattle.tz_specs.specs.Day.{day_number_of}
use Rattle.tz_specs.specs.Word.{named_entry}
use Rattle.tz_specs.specs.Causes.{least_cause, unless_cause}
use Rattle.tz_specs.specs.LineCauses.{causes_with}
use Rattle.tz_specs.specs.Value.{field_at, is_exactly, month_named, rule_year_of}
use Rattle.tz_specs.specs.Contents.{fields_or_none}

-- what a line says that isn't blank: a leap second, or the moment from which the table isn't known to hold
pub data LeapRecord : Type 0 where
  SecondRecord : LeapEntry → LeapRecord
  ExpiryRecord : ℤ → LeapRecord

-- the two kinds of records, and the keywords that name them
pub data LeapKind : Type 0 where
  SecondLine : LeapKind
  ExpiryLine : LeapKind

abbrev pub leap_keywords : List ℕ
leap_keywords = codes "Leap Expires"

abbrev pub leap_kind_of : List ℕ → Option LeapKind
leap_kind_of keyword =
    named_entry keyword leap_keywords >>= λ place. slice_get (SecondLine ∷ ExpiryLine ∷ []) place

-- how many fields a record has
abbrev pub has_leap_count : LeapKind → ℕ → Bool
has_leap_count SecondLine count = count == 7
has_leap_count ExpiryLine count = count == 5

-- the day of a record, by its year, its month and a plain day number of one or two digits that the month has in that year

abbrev pub leap_day_of : ℤ → Month → List ℕ → Option ℕ
leap_day_of year month field =
    day_number_of field >>= λ day. only_if (is_day_up_to (days_in_month year (month_number month)) day) day

unfoldable pub leap_day : List (List ℕ) → Option ℤ
leap_day fields = do
  year ← rule_year_of (field_at 1 fields)
  month ← month_named (field_at 2 fields)
  day ← leap_day_of year month (field_at 3 fields)
  Some (days_from_civil year (month_number month) day)

-- CORR: a second is added, or skipped
abbrev pub correction_of : List ℕ → Option Bool
correction_of field =
    if is_exactly field (codes "+") then Some true else (if is_exactly field (codes "-") then Some false else None)

-- the second that is added, and the one that is skipped
abbrev pub leap_time : Bool → List ℕ
leap_time added = if added then codes "23:59:60" else codes "23:59:59"

-- a time that goes with the correction, or with either where there is none
abbrev pub is_leap_time : Option Bool → List ℕ → Bool
is_leap_time None field = is_exactly field (leap_time true) || is_exactly field (leap_time false)
is_leap_time (Some added) field = is_exactly field (leap_time added)

-- a second stands still, in universal time, or rolls with local time; the place of `Stationary` is 0
abbrev pub kind_table : List ℕ
kind_table = codes "Stationary Rolling"

-- the first place of a table
abbrev pub is_first_place : Option ℕ → Bool
is_first_place None = false
is_first_place (Some place) = nat_eq place 0

abbrev pub is_stationary : List ℕ → Bool
is_stationary word = is_first_place (named_entry word kind_table)

-- the leap second of a record
unfoldable pub entry_of : List (List ℕ) → Option LeapEntry
entry_of fields = do
  day ← leap_day fields
  added ← correction_of (field_at 5 fields)
  Some (record { date = pos 86_400 *ℤ (day +ℤ pos 1); added = added })

-- the causes of a record's day; without a year or a month there is no day either
abbrev pub day_causes : List (List ℕ) → List (Cause × Bool)
day_causes fields =
    (causes.Year, is_none (rule_year_of (field_at 1 fields)))
    ∷ (causes.Month, is_none (month_named (field_at 2 fields)))
    ∷ (causes.Day, is_none (leap_day fields))
    ∷ []

-- the causes of a leap second, before which so many stand
unfoldable pub entry_causes : ℕ → List (List ℕ) → List (Cause × Bool)
entry_causes earlier fields =
    day_causes fields
    ++ (causes.Time, not (is_leap_time (correction_of (field_at 5 fields)) (field_at 4 fields)))
    ∷ (causes.Corr, is_none (correction_of (field_at 5 fields)))
    ∷ (causes.Rolling, not (is_stationary (field_at 6 fields)))
    ∷ (causes.Limit, nat_le MOST_LEAPS earlier)
    ∷ []

-- `HH:MM:SS`, two digits each, in seconds from midnight

abbrev pub two_digits_of : ℕ → List ℕ → Option ℕ
two_digits_of most word = number_of 2 2 word >>= λ value. only_if (nat_le value most) value

abbrev pub seconds_of_parts : List (List ℕ) → Option ℕ
seconds_of_parts (hours ∷ minutes ∷ seconds ∷ []) = do
  hour ← two_digits_of 23 hours
  minute ← two_digits_of 59 minutes
  second ← two_digits_of 59 seconds
  Some (3_600 * hour + 60 * minute + second)
seconds_of_parts parts = None

abbrev pub second_of_day : List ℕ → Option ℕ
second_of_day field = seconds_of_parts (parts_at 0x3a field)

-- the moment of a record
unfoldable pub moment_of : List (List ℕ) → Option ℤ
moment_of fields = do
  day ← leap_day fields
  second ← second_of_day (field_at 4 fields)
  Some (pos 86_400 *ℤ day +ℤ pos second)

unfoldable pub expiry_causes : List (List ℕ) → List (Cause × Bool)
expiry_causes fields = day_causes fields ++ (causes.Time, is_none (second_of_day (field_at 4 fields))) ∷ []

-- the record of fields of a kind, and its causes

abbrev pub leap_record_of : LeapKind → List (List ℕ) → Option LeapRecord
leap_record_of SecondLine fields = option_map SecondRecord (entry_of fields)
leap_record_of ExpiryLine fields = option_map ExpiryRecord (moment_of fields)

abbrev pub leap_record_causes : ℕ → LeapKind → List (List ℕ) → List (Cause × Bool)
leap_record_causes earlier SecondLine fields = entry_causes earlier fields
leap_record_causes earlier ExpiryLine fields = expiry_causes fields

-- the causes of a line's fields; a first field that names no keyword leaves no kind, and a blank line has none

abbrev pub leap_kind_causes : ℕ → Option LeapKind → List (List ℕ) → List (Cause × Bool)
leap_kind_causes earlier None fields = (causes.Keyword, true) ∷ []
leap_kind_causes earlier (Some kind) fields =
    (causes.FieldCount, not (has_leap_count kind (length fields))) ∷ leap_record_causes earlier kind fields

unfoldable pub leap_field_causes : ℕ → List (List ℕ) → List (Cause × Bool)
leap_field_causes earlier [] = []
leap_field_causes earlier (keyword ∷ fields) =
    leap_kind_causes earlier (leap_kind_of keyword) (keyword ∷ fields)

-- the causes of a line, by its number and by how many leap seconds stand before it
abbrev pub leap_line_causes : ℕ → ℕ → List ℕ → List (Cause × Bool)
leap_line_causes number earlier line =
    causes_with number line (leap_field_causes earlier (fields_or_none (fields_of line)))

-- what fields say; no fields say nothing
unfoldable pub leap_record_of_fields : List (List ℕ) → Option LeapRecord
leap_record_of_fields [] = None
leap_record_of_fields (keyword ∷ fields) = leap_kind_of keyword >>= λ kind. leap_record_of kind (keyword ∷ fields)

-- the least cause of a line, or else its record; a blank line has none
unfoldable pub leap_line_says : ℕ → ℕ → List ℕ → Result (Option LeapRecord) Cause
leap_line_says number earlier line =
    unless_cause (least_cause (leap_line_causes number earlier line))
    (leap_record_of_fields (fields_or_none (fields_of line)))
