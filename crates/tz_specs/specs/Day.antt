-- Days of a month, after zic(8), "Rule lines", ON: `5`, `lastSun`, `Sun>=8`, `Sun<=25`.
use Rattle.std.specs.Prelude.{ℕ, ◌==◌, nat_le, nat_eq, ◌&&◌, if◌then◌else◌, List, [], ◌∷◌, drop, codes, Option, Some, None, option_map, slice_get}
use Rattle.std.specs.List.{starts_with}
use Rattle.tz_types.specs.declared.calendar.Weekday.{Weekday}
use Rattle.tz_types.specs.declared.calendar.Weekday.TheVariants as weekdays
use Rattle.tz_types.specs.declared.calendar.On.{On}
use Rattle.tz_types.specs.declared.calendar.On.TheVariants.{Day, Last, From, UpTo}
use Rattle.tz_specs.specs.Choice.{◌>>=◌, only_if}
use Rattle.tz_specs.specs.Number.{number_of}
use Rattle.tz_specs.specs.Parts.{parts_at}
use Rattle.tz_specs.specs.Word.{lowered, named_entry}

abbrev pub weekday_table : List ℕ
weekday_table = codes "Sunday Monday Tuesday Wednesday Thursday Friday Saturday"

abbrev pub all_weekdays : List Weekday
all_weekdays =
    weekdays.Sunday ∷ weekdays.Monday ∷ weekdays.Tuesday ∷ weekdays.Wednesday ∷ weekdays.Thursday ∷ weekdays.Friday ∷ weekdays.Saturday ∷ []

-- the weekday that the word names
abbrev pub weekday_of : List ℕ → Option Weekday
weekday_of word = named_entry word weekday_table >>= λ place. slice_get all_weekdays place

-- a day number of one or two digits, from 1 to 31
abbrev pub day_number_of : List ℕ → Option ℕ
day_number_of word = number_of 1 2 word >>= λ day. only_if (nat_le 1 day && nat_le day 31) day

-- `last` and a weekday
abbrev pub last_weekday_of : List ℕ → Option On
last_weekday_of word =
    if starts_with nat_eq (lowered word) (codes "last") then option_map Last (weekday_of (drop 4 word)) else None

-- what stands behind the mark `<` or `>`: `=` and a day number
abbrev pub bound_of : List ℕ → Option ℕ
bound_of [] = None
bound_of (byte ∷ digits) = if byte == 0x3d then day_number_of digits else None

-- a weekday, a mark and a day number
abbrev pub bounded_weekday_of : (Weekday → ℕ → On) → List (List ℕ) → Option On
bounded_weekday_of form [] = None
bounded_weekday_of form (name ∷ []) = None
bounded_weekday_of form (name ∷ bound ∷ []) = do
  weekday ← weekday_of name
  day ← bound_of bound
  Some (form weekday day)
bounded_weekday_of form (name ∷ bound ∷ other ∷ parts) = None

-- the first that there is
abbrev pub or_else : {A : Type 0} → Option A → Option A → Option A
or_else None other = other
or_else (Some x) other = Some x

unfoldable pub on_of : List ℕ → Option On
on_of word =
    or_else (option_map Day (day_number_of word))
    (or_else (last_weekday_of word)
    (or_else (bounded_weekday_of From (parts_at 0x3e word)) (bounded_weekday_of UpTo (parts_at 0x3c word))))
