-- What a zone's line says in two parts: when it ends, and what it keeps until then.
use Rattle.std.specs.Prelude.{ℕ, nat_lt, Bool, ◌&&◌, ◌||◌, if◌then◌else◌, List, [], ◌∷◌, length, ℤ, Option}
use Rattle.std.specs.Option.{is_none}
use Rattle.tz_types.specs.declared.limit.TheConstants.{LONGEST_FORMAT}
use Rattle.tz_types.specs.declared.cause.Cause.{Cause}
use Rattle.tz_types.specs.declared.cause.Cause.TheVariants as causes
use Rattle.tz_specs.specs.Value.{field_at, month_named, rule_year_of, time_of, stdoff_of, is_bad_name, is_long_name, names_set, rules_of, format_of}
use Rattle.tz_types.specs.declared.format.Format.{Format}
use Rattle.tz_specs.specs.Written.{WrittenRules, WrittenUntil, WrittenLine}
use Rattle.tz_specs.specs.Record.{has_until, until_month, until_time, until_day}

-- the causes of an UNTIL that there is
unfoldable pub end_causes : List (List ℕ) → List (Cause × Bool)
end_causes fields =
    (causes.Year, is_none (rule_year_of (field_at 3 fields)))
    ∷ (causes.Month, is_none (month_named (until_month fields)))
    ∷ (causes.Day, is_none (until_day fields))
    ∷ (causes.Time, is_none (time_of (until_time fields)))
    ∷ []

-- the causes of an UNTIL, which may be missing
abbrev pub until_causes : List (List ℕ) → List (Cause × Bool)
until_causes fields = if has_until fields then end_causes fields else []

-- the causes of the fields before it
unfoldable pub keeping_causes : Bool → Bool → List (List ℕ) → List (Cause × Bool)
keeping_causes badly_named long_named fields =
    (causes.Time, is_none (stdoff_of (field_at 0 fields)))
    ∷ (causes.Save, is_none (rules_of (field_at 1 fields)))
    ∷ (causes.BadName, badly_named || (names_set (field_at 1 fields) && is_bad_name (field_at 1 fields)))
    ∷ (causes.Format, is_none (format_of (field_at 2 fields)))
    ∷ (causes.LongAbbrev, nat_lt LONGEST_FORMAT (length (field_at 2 fields)))
    ∷ (causes.Limit, long_named || (names_set (field_at 1 fields) && is_long_name (field_at 1 fields)))
    ∷ []

-- the line that keeps this up to the UNTIL
abbrev pub line_with : ℤ → WrittenRules → Format → Option WrittenUntil → ℕ → WrittenLine
line_with stdoff rules format until number =
    record { stdoff = stdoff; rules = rules; format = format; until = until; line = number }
