-- What a line of a zone text says, after zic(8): Rule, Zone, continuation and Link lines, or why it says nothing.
use Rattle.std.specs.Prelude.{ℕ, ◌==◌, nat_le, nat_lt, Bool, true, false, not, ◌&&◌, ◌||◌, if◌then◌else◌, List, [], ◌∷◌, length, drop, codes, slice_get, Option, Some, None, option_map}
use Rattle.std.specs.Option.{is_none}
use Rattle.std.specs.List.{list_all}
use Rattle.tz_types.specs.declared.limit.TheConstants.{LONGEST_FORMAT, LONGEST_LETTERS}
use Rattle.tz_types.specs.Text.{is_printable}
use Rattle.tz_types.specs.declared.calendar.On.{On}
use Rattle.tz_types.specs.declared.cause.Cause.{Cause}
use Rattle.tz_types.specs.declared.cause.Cause.TheVariants as causes
use Rattle.tz_specs.specs.Choice.{◌>>=◌}
use Rattle.tz_specs.specs.Word.{named_entry}
use Rattle.tz_specs.specs.Value.{field_or, field_at, is_dash, month_named, rule_year_of, years_of, fall, rule_day_of, until_day_of, time_of, stdoff_of, save_of, is_bad_name, is_long_name, starts_amount, names_set, rules_of, letters_of, format_of}
use Rattle.tz_specs.specs.Written.{WrittenRule, WrittenUntil, WrittenLine, WrittenLink, Record, RuleRecord, ZoneRecord, Continuation, LinkRecord}

-- the kinds of records
pub data Kind : Type 0 where
  RuleLine : Kind
  ZoneLine : Kind
  LinkLine : Kind
  ContinuationLine : Kind

abbrev pub keyword_table : List ℕ
keyword_table = codes "Rule Zone Link"

-- the kind that the first field names; a line is a continuation where the zone before it waits for one
abbrev pub kind_of_record : Bool → List (List ℕ) → Option Kind
kind_of_record true fields = Some ContinuationLine
kind_of_record false fields =
    named_entry (field_at 0 fields) keyword_table >>= λ place. slice_get (RuleLine ∷ ZoneLine ∷ LinkLine ∷ []) place

-- how many fields a record has
abbrev pub has_count : Kind → ℕ → Bool
has_count RuleLine count = count == 10
has_count ZoneLine count = nat_le 5 count && nat_le count 9
has_count LinkLine count = count == 3
has_count ContinuationLine count = nat_le 3 count && nat_le count 7

-- `Rule NAME FROM TO - IN ON AT SAVE LETTER/S`

abbrev pub rule_day : List (List ℕ) → Option On
rule_day fields =
    rule_day_of (years_of (field_at 2 fields) (field_at 3 fields)) (month_named (field_at 5 fields)) (field_at 6 fields)

unfoldable pub rule_of : ℕ → List (List ℕ) → Option WrittenRule
rule_of number fields = do
  years ← years_of (field_at 2 fields) (field_at 3 fields)
  month ← month_named (field_at 5 fields)
  on ← rule_day fields
  time ← time_of (field_at 7 fields)
  save ← save_of (field_at 8 fields)
  Some (
      record {
        from = years.0;
        to = years.1;
        moment = record { month = month; on = on; at = time.0; kind = time.1 };
        save = save.0;
        daylight = save.1;
        letters = letters_of (field_at 9 fields);
        line = number;
      })

-- the causes of a rule, which may be one too many
unfoldable pub rule_causes : Bool → List (List ℕ) → List (Cause × Bool)
rule_causes too_many fields =
    (causes.Year, is_none (years_of (field_at 2 fields) (field_at 3 fields)))
    ∷ (causes.YearOrder, fall (years_of (field_at 2 fields) (field_at 3 fields)))
    ∷ (causes.Reserved, not (is_dash (field_at 4 fields)))
    ∷ (causes.Month, is_none (month_named (field_at 5 fields)))
    ∷ (causes.Day, is_none (rule_day fields))
    ∷ (causes.Time, is_none (time_of (field_at 7 fields)))
    ∷ (causes.Save, is_none (save_of (field_at 8 fields)))
    ∷ (causes.BadName, is_bad_name (field_at 1 fields) || starts_amount (field_at 1 fields))
    ∷ (causes.Format, not (list_all is_printable (letters_of (field_at 9 fields))))
    ∷ (causes.LongAbbrev, nat_lt LONGEST_LETTERS (length (letters_of (field_at 9 fields))))
    ∷ (causes.Limit, is_long_name (field_at 1 fields) || too_many)
    ∷ []

-- `STDOFF RULES FORMAT [YEAR [MONTH [DAY [TIME]]]]`: a MONTH that is missing is January, a DAY 1, and a TIME 0

abbrev pub has_until : List (List ℕ) → Bool
has_until fields = nat_le 4 (length fields)

abbrev pub until_month : List (List ℕ) → List ℕ
until_month fields = field_or (codes "January") 4 fields

abbrev pub until_time : List (List ℕ) → List ℕ
until_time fields = field_or (codes "0") 6 fields

abbrev pub until_day : List (List ℕ) → Option On
until_day fields =
    until_day_of (rule_year_of (field_at 3 fields)) (month_named (until_month fields)) (field_or (codes "1") 5 fields)

unfoldable pub written_end : List (List ℕ) → Option WrittenUntil
written_end fields = do
  year ← rule_year_of (field_at 3 fields)
  month ← month_named (until_month fields)
  on ← until_day fields
  time ← time_of (until_time fields)
  Some (record { year = year; moment = record { month = month; on = on; at = time.0; kind = time.1 } })

-- no UNTIL, or the one that is written
abbrev pub until_of : List (List ℕ) → Option (Option WrittenUntil)
until_of fields = if has_until fields then option_map Some (written_end fields) else Some None

unfoldable pub line_of : ℕ → List (List ℕ) → Option WrittenLine
line_of number fields = do
  stdoff ← stdoff_of (field_at 0 fields)
  rules ← rules_of (field_at 1 fields)
  format ← format_of (field_at 2 fields)
  until ← until_of fields
  Some (record { stdoff = stdoff; rules = rules; format = format; until = until; line = number })

-- the causes of a zone's line, whose zone may have a bad name, and which may be one too many
unfoldable pub line_causes : Bool → Bool → List (List ℕ) → List (Cause × Bool)
line_causes badly_named too_many fields =
    (causes.Year, has_until fields && is_none (rule_year_of (field_at 3 fields)))
    ∷ (causes.Month, has_until fields && is_none (month_named (until_month fields)))
    ∷ (causes.Day, has_until fields && is_none (until_day fields))
    ∷ (causes.Time, is_none (stdoff_of (field_at 0 fields)) || (has_until fields && is_none (time_of (until_time fields))))
    ∷ (causes.Save, is_none (rules_of (field_at 1 fields)))
    ∷ (causes.BadName, badly_named || (names_set (field_at 1 fields) && is_bad_name (field_at 1 fields)))
    ∷ (causes.Format, is_none (format_of (field_at 2 fields)))
    ∷ (causes.LongAbbrev, nat_lt LONGEST_FORMAT (length (field_at 2 fields)))
    ∷ (causes.Limit, too_many || (names_set (field_at 1 fields) && is_long_name (field_at 1 fields)))
    ∷ []

-- `Link TARGET LINK-NAME`

abbrev pub link_of : ℕ → List (List ℕ) → WrittenLink
link_of number fields = record { target = field_at 1 fields; name = field_at 2 fields; line = number }

-- the causes of a link, which may be one too many
abbrev pub link_causes : Bool → List (List ℕ) → List (Cause × Bool)
link_causes too_many fields =
    (causes.BadName, is_bad_name (field_at 1 fields) || is_bad_name (field_at 2 fields))
    ∷ (causes.Limit, is_long_name (field_at 1 fields) || is_long_name (field_at 2 fields) || too_many)
    ∷ []

-- the record of fields of a kind
abbrev pub record_of : Kind → ℕ → List (List ℕ) → Option Record
record_of RuleLine number fields = option_map (RuleRecord (field_at 1 fields)) (rule_of number fields)
record_of ZoneLine number fields = option_map (ZoneRecord (field_at 1 fields)) (line_of number (drop 2 fields))
record_of LinkLine number fields = Some (LinkRecord (link_of number fields))
record_of ContinuationLine number fields = option_map Continuation (line_of number fields)
