-- What a zone's line says, by its two parts.
use Rattle.std.proofs.Common.{◌≡◌, ℕ, ◌+◌, ◌<◌, ◌≤◌, nat_lt, Bool, true, false, ◌&&◌, ◌||◌, if◌then◌else◌, length, drop, List, [], ◌∷◌, ◌++◌, ℤ, Option, Some, None, slice_index_or, refl, sym, ◌∙◌, arith}
use Rattle.std.specs.Option.{is_none}
use Rattle.std.proofs.lemmas.List.{get_or-drop, length-drop}
use Rattle.std.proofs.lemmas.Bool.{lt-ltb, le-ltb, le-leb, lt-leb, or_parts, or_from}
use Rattle.tz_types.specs.declared.limit.TheConstants.{LONGEST_FORMAT}
use Rattle.tz_types.specs.declared.cause.Cause.{Cause}
use Rattle.tz_types.specs.declared.cause.Cause.TheVariants as causes
use Rattle.tz_specs.specs.Causes.{least_cause}
use Rattle.tz_specs.specs.Value.{field_or, field_at, stdoff_of, rules_of, format_of, rule_year_of, month_named, time_of, names_set, is_bad_name, is_long_name}
use Rattle.tz_types.specs.declared.format.Format.{Format}
use Rattle.tz_specs.specs.Written.{WrittenRules, WrittenUntil}
use Rattle.tz_specs.specs.Record.{has_until, until_month, until_time, until_day, written_end, until_of, line_of, line_causes}
use Rattle.tz_records.specs.declared.rules_field.RulesField.{RulesField}
use Rattle.tz_records.specs.declared.format_field.FormatField.{FormatField}
use Rattle.tz_records.specs.RulesField.{rules_told, is_badly_named}
use Rattle.tz_records.specs.FormatField.{format_told}
use Rattle.tz_records.specs.LineFields.{end_causes, until_causes, keeping_causes}
use Rattle.tz_records.proofs.LeastCauses.{least_before, least_after, row_at}

-- a field behind others
pub later_field : (missing : List ℕ) (first place : ℕ) (fields : List (List ℕ)) → field_or missing place (drop first fields) ≡ slice_index_or fields (first + place) missing
later_field missing first place fields = get_or-drop first fields place missing

few_fields : (first : ℕ) (fields : List (List ℕ)) → length fields < first + 4 → has_until (drop first fields) ≡ false
few_fields first fields few =
    let long = length-drop first fields in
    lt-leb 4 (length (drop first fields)) (omega arith)

many_fields : (first : ℕ) (fields : List (List ℕ)) → first + 4 ≤ length fields → has_until (drop first fields) ≡ true
many_fields first fields many =
    let long = length-drop first fields in
    le-leb 4 (length (drop first fields)) (omega arith)

-- a line that has no UNTIL
pub without_until : (first : ℕ) (fields : List (List ℕ)) → length fields < first + 4 → (least_cause (until_causes (drop first fields)) ≡ None) × (until_of (drop first fields) ≡ Some None)
without_until first fields few = rw (few_fields first fields few) (refl, refl)

-- a line that has one

pub until_refused : (first : ℕ) (fields : List (List ℕ)) (cause : Cause) → first + 4 ≤ length fields → least_cause (end_causes (drop first fields)) ≡ Some cause → least_cause (until_causes (drop first fields)) ≡ Some cause
until_refused first fields cause many h = rw (many_fields first fields many) h

pub until_told : (first : ℕ) (fields : List (List ℕ)) (until : WrittenUntil) → first + 4 ≤ length fields → least_cause (end_causes (drop first fields)) ≡ None → written_end (drop first fields) ≡ Some until → (least_cause (until_causes (drop first fields)) ≡ None) × (until_of (drop first fields) ≡ Some (Some until))
until_told first fields until many h e = rw (many_fields first fields many) (h, rw e refl)

-- the least cause of the whole

by_until : (until year month day stdoff time : Bool) (later : List (Cause × Bool)) → least_cause ((causes.Year, until && year) ∷ (causes.Month, until && month) ∷ (causes.Day, until && day) ∷ (causes.Time, stdoff || (until && time)) ∷ later) ≡ least_cause ((if until then (causes.Year, year) ∷ (causes.Month, month) ∷ (causes.Day, day) ∷ (causes.Time, time) ∷ [] else []) ++ (causes.Time, stdoff) ∷ later)
by_until false year month day true time later = refl
by_until false year month day false time later = refl
by_until true true month day stdoff time later = refl
by_until true false true day stdoff time later = refl
by_until true false false true stdoff time later = refl
by_until true false false false true true later = refl
by_until true false false false true false later = refl
by_until true false false false false time later = refl

parts_of_causes : (badly_named long_named : Bool) (fields : List (List ℕ)) → least_cause (line_causes badly_named long_named fields) ≡ least_cause (until_causes fields ++ keeping_causes badly_named long_named fields)
unfolding line_causes end_causes keeping_causes
parts_of_causes badly_named long_named fields =
    by_until (has_until fields) (is_none (rule_year_of (field_at 3 fields))) (is_none (month_named (until_month fields))) (is_none (until_day fields)) (is_none (stdoff_of (field_at 0 fields))) (is_none (time_of (until_time fields))) ((causes.Save, is_none (rules_of (field_at 1 fields))) ∷ (causes.BadName, badly_named || (names_set (field_at 1 fields) && is_bad_name (field_at 1 fields))) ∷ (causes.Format, is_none (format_of (field_at 2 fields))) ∷ (causes.LongAbbrev, nat_lt LONGEST_FORMAT (length (field_at 2 fields))) ∷ (causes.Limit, long_named || (names_set (field_at 1 fields) && is_long_name (field_at 1 fields))) ∷ [])

-- a cause of the UNTIL is the line's
pub end_refused : (badly_named long_named : Bool) (fields : List (List ℕ)) (cause : Cause) → least_cause (until_causes fields) ≡ Some cause → least_cause (line_causes badly_named long_named fields) ≡ Some cause
end_refused badly_named long_named fields cause h =
    parts_of_causes badly_named long_named fields ∙ least_before (until_causes fields) (keeping_causes badly_named long_named fields) cause h

pub end_told : (badly_named long_named : Bool) (fields : List (List ℕ)) → least_cause (until_causes fields) ≡ None → least_cause (line_causes badly_named long_named fields) ≡ least_cause (keeping_causes badly_named long_named fields)
end_told badly_named long_named fields h =
    parts_of_causes badly_named long_named fields ∙ least_after (until_causes fields) (keeping_causes badly_named long_named fields) h

-- the tests of the fields before the UNTIL, in the order of their causes
by_tests : (stdoff rules bad format long beyond : Bool) → stdoff ≡ false → rules ≡ false → bad ≡ false → format ≡ false → least_cause ((causes.Time, stdoff) ∷ (causes.Save, rules) ∷ (causes.BadName, bad) ∷ (causes.Format, format) ∷ (causes.LongAbbrev, long) ∷ (causes.Limit, beyond) ∷ []) ≡ (if long then Some causes.LongAbbrev else (if beyond then Some causes.Limit else None))
by_tests stdoff rules bad format long beyond a b c d = rw (a, b, c, d) refl

-- a line whose values are all there
pub record IsSaid (badly_named : Bool) (fields : List (List ℕ)) (stdoff : ℤ) (rules : WrittenRules) (format : Format) : Type 0 where
  pub no_cause : least_cause (until_causes fields) ≡ None
  pub stdoff_is : stdoff_of (field_at 0 fields) ≡ Some stdoff
  pub rules_are : rules_of (field_at 1 fields) ≡ Some rules
  pub well_named : (badly_named || (names_set (field_at 1 fields) && is_bad_name (field_at 1 fields))) ≡ false
  pub format_is : format_of (field_at 2 fields) ≡ Some format

-- the values that the fields give
pub values_said : (badly_named set_badly : Bool) (fields : List (List ℕ)) (first second third : List ℕ) (stdoff : ℤ) (rules : RulesField) (format : FormatField) → least_cause (until_causes fields) ≡ None → first ≡ field_at 0 fields → Some stdoff ≡ stdoff_of first → second ≡ field_at 1 fields → Some (rules_told rules) ≡ rules_of second → is_badly_named rules ≡ (names_set second && is_bad_name second) → third ≡ field_at 2 fields → Some (format_told format) ≡ format_of third → badly_named ≡ false → set_badly ≡ is_badly_named rules → set_badly ≡ false → IsSaid badly_named fields stdoff (rules_told rules) (format_told format)
values_said badly_named set_badly fields first second third stdoff rules format none a at_first b at_second bad c at_third well is well_set =
    record {
      no_cause = none;
      stdoff_is = rw a at (sym at_first);
      rules_are = rw b at (sym at_second);
      well_named = or_from _ _ well (rw b at (sym bad ∙ sym is ∙ well_set));
      format_is = rw c at (sym at_third);
    }

late_causes : (badly_named long_named : Bool) (fields : List (List ℕ)) (stdoff : ℤ) (rules : WrittenRules) (format : Format) → IsSaid badly_named fields stdoff rules format → least_cause (line_causes badly_named long_named fields) ≡ (if nat_lt LONGEST_FORMAT (length (field_at 2 fields)) then Some causes.LongAbbrev else (if long_named || (names_set (field_at 1 fields) && is_long_name (field_at 1 fields)) then Some causes.Limit else None))
unfolding keeping_causes
late_causes badly_named long_named fields stdoff rules format said =
    end_told badly_named long_named fields said.no_cause ∙ by_tests (is_none (stdoff_of (field_at 0 fields))) (is_none (rules_of (field_at 1 fields))) (badly_named || (names_set (field_at 1 fields) && is_bad_name (field_at 1 fields))) (is_none (format_of (field_at 2 fields))) (nat_lt LONGEST_FORMAT (length (field_at 2 fields))) (long_named || (names_set (field_at 1 fields) && is_long_name (field_at 1 fields))) (rw said.stdoff_is refl) (rw said.rules_are refl) said.well_named (rw said.format_is refl)

pub long_format : (badly_named long_named : Bool) (fields : List (List ℕ)) (stdoff : ℤ) (rules : WrittenRules) (format : Format) → IsSaid badly_named fields stdoff rules format → LONGEST_FORMAT < length (field_at 2 fields) → least_cause (line_causes badly_named long_named fields) ≡ Some causes.LongAbbrev
long_format badly_named long_named fields stdoff rules format said long =
    late_causes badly_named long_named fields stdoff rules format said ∙ rw (lt-ltb LONGEST_FORMAT (length (field_at 2 fields)) long) refl

-- the last cause, or none
pub last_cause : (badly_named long_named beyond : Bool) (fields : List (List ℕ)) (stdoff : ℤ) (rules : WrittenRules) (format : Format) → IsSaid badly_named fields stdoff rules format → length (field_at 2 fields) ≤ LONGEST_FORMAT → (long_named || (names_set (field_at 1 fields) && is_long_name (field_at 1 fields))) ≡ beyond → least_cause (line_causes badly_named long_named fields) ≡ (if beyond then Some causes.Limit else None)
last_cause badly_named long_named beyond fields stdoff rules format said short is =
    late_causes badly_named long_named fields stdoff rules format said ∙ rw (le-ltb LONGEST_FORMAT (length (field_at 2 fields)) short, is) refl

-- what the line says
pub line_said : (badly_named : Bool) (number : ℕ) (fields : List (List ℕ)) (stdoff : ℤ) (rules : WrittenRules) (format : Format) (until : Option WrittenUntil) → IsSaid badly_named fields stdoff rules format → until_of fields ≡ Some until → line_of number fields ≡ Some (record { stdoff = stdoff; rules = rules; format = format; until = until; line = number })
unfolding line_of
line_said badly_named number fields stdoff rules format until said e =
    rw (said.stdoff_is, said.rules_are, said.format_is, e) refl

-- A line without a cause has a good name, and none that is too long.
pub well_named : (badly_named long_named : Bool) (fields : List (List ℕ)) → least_cause (line_causes badly_named long_named fields) ≡ None → (badly_named ≡ false) × (long_named ≡ false)
unfolding line_causes
well_named badly_named long_named fields h =
    let set_badly = names_set (field_at 1 fields) && is_bad_name (field_at 1 fields) in
    let set_long = names_set (field_at 1 fields) && is_long_name (field_at 1 fields) in
    let good = row_at (line_causes badly_named long_named fields) h 5 (causes.BadName, badly_named || set_badly) refl in
    let few = row_at (line_causes badly_named long_named fields) h 8 (causes.Limit, long_named || set_long) refl in
    ((or_parts badly_named set_badly good).0, (or_parts long_named set_long few).0)
