-- What a Rule line says in two parts: when the rule occurs, and what it sets.
use Rattle.std.specs.Prelude.{ℕ, nat_lt, Bool, not, ◌||◌, List, [], ◌∷◌, length, ℤ, Option, Some}
use Rattle.std.specs.Option.{is_none}
use Rattle.std.specs.List.{list_all}
use Rattle.tz_types.specs.declared.limit.TheConstants.{LONGEST_LETTERS}
use Rattle.tz_types.specs.Text.{is_printable}
use Rattle.tz_types.specs.declared.moment.Moment.{Moment}
use Rattle.tz_types.specs.declared.cause.Cause.{Cause}
use Rattle.tz_types.specs.declared.cause.Cause.TheVariants as causes
use Rattle.tz_specs.specs.Choice.{◌>>=◌}
use Rattle.tz_specs.specs.Value.{field_at, is_dash, month_named, years_of, fall, time_of, save_of, is_bad_name, is_long_name, starts_amount, letters_of}
use Rattle.tz_specs.specs.Written.{WrittenRule}
use Rattle.tz_specs.specs.Record.{rule_day}
use Rattle.tz_records.specs.declared.recurrence.Recurrence.{Recurrence}

-- the years in which a rule occurs, and the moment in each of them
pub record WrittenRecurrence : Type 0 where
  pub from : ℤ
  pub to : ℤ
  pub moment : Moment

abbrev pub written_recurrence : Recurrence → WrittenRecurrence
written_recurrence recurrence =
    record { from = recurrence.from; to = recurrence.to; moment = recurrence.moment }

unfoldable pub recurrence_of : List (List ℕ) → Option WrittenRecurrence
recurrence_of fields = do
  years ← years_of (field_at 2 fields) (field_at 3 fields)
  month ← month_named (field_at 5 fields)
  on ← rule_day fields
  time ← time_of (field_at 7 fields)
  Some (
      record {
        from = years.0;
        to = years.1;
        moment = record { month = month; on = on; at = time.0; kind = time.1 };
      })

-- the rule that occurs so, and sets this
abbrev pub rule_with : ℕ → List ℕ → WrittenRecurrence → ℤ × Bool → WrittenRule
rule_with number letters recurrence save =
    record {
      from = recurrence.from;
      to = recurrence.to;
      moment = recurrence.moment;
      save = save.0;
      daylight = save.1;
      letters = letters;
      line = number;
    }

-- the causes of the fields that say when a rule occurs
unfoldable pub recurrence_causes : List (List ℕ) → List (Cause × Bool)
recurrence_causes fields =
    (causes.Year, is_none (years_of (field_at 2 fields) (field_at 3 fields)))
    ∷ (causes.YearOrder, fall (years_of (field_at 2 fields) (field_at 3 fields)))
    ∷ (causes.Reserved, not (is_dash (field_at 4 fields)))
    ∷ (causes.Month, is_none (month_named (field_at 5 fields)))
    ∷ (causes.Day, is_none (rule_day fields))
    ∷ (causes.Time, is_none (time_of (field_at 7 fields)))
    ∷ []

-- the causes of what a rule sets, and of its name
unfoldable pub setting_causes : List (List ℕ) → List (Cause × Bool)
setting_causes fields =
    (causes.Save, is_none (save_of (field_at 8 fields)))
    ∷ (causes.BadName, is_bad_name (field_at 1 fields) || starts_amount (field_at 1 fields))
    ∷ (causes.Format, not (list_all is_printable (letters_of (field_at 9 fields))))
    ∷ (causes.LongAbbrev, nat_lt LONGEST_LETTERS (length (letters_of (field_at 9 fields))))
    ∷ (causes.Limit, is_long_name (field_at 1 fields))
    ∷ []
