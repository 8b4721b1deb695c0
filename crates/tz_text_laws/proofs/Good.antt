-- What lines give is in its ranges.
use Rattle.std.proofs.Common.{◌≡◌, ℕ, suc, ◌≤◌, Bool, true, false, nat_le, IsTrue, List, [], ◌∷◌, length, zero, codes, slice_index_or, ℤ, pos, ◌≤ℤ◌, int_lt, unsigned_abs, Option, Some, None, refl, sym, ap, ◌∙◌, ⊎_elim, arith, subst}
use Rattle.std.proofs.lemmas.Bool.{cases_Bool}
use Rattle.std.proofs.lemmas.Bool.Decides.{nat_tests}
use Rattle.std.proofs.lemmas.Int.{by_lt_z}
use Rattle.jiff_core.specs.Calendar.{IsWithin}
use Rattle.jiff_core.proofs.SignedLemmas.{signed_arith}
use Rattle.tz_types.specs.Year.{IsWrittenYear, IsRuleYear}
use Rattle.tz_types.specs.Amount.{IsTimeOfDay, IsShift, is_shift}
use Rattle.tz_types.specs.declared.limit.TheConstants.{LONGEST_SHIFT, LAST_RULE_YEAR, LAST_WRITTEN_YEAR, LONGEST_FORMAT}
use Rattle.tz_types.specs.Calendar.{has_day, has_day_through}
use Rattle.tz_types.specs.Format.{is_format}
use Rattle.tz_types.specs.declared.calendar.Month.{Month}
use Rattle.tz_types.specs.declared.calendar.On.{On}
use Rattle.tz_types.specs.declared.moment.AtKind.{AtKind}
use Rattle.tz_specs.specs.Choice.{◌>>=◌, only_if}
use Rattle.tz_specs.specs.Amount.{amount_of}
use Rattle.tz_specs.specs.Number.{year_of}
use Rattle.tz_specs.specs.Day.{on_of, or_else}
use Rattle.tz_specs.specs.Word.{named_entry}
use Rattle.tz_types.specs.declared.format.Format.{Format}
use Rattle.tz_specs.specs.Value.{field_or, field_at, month_named, rule_year_of, last_year_table, last_year_named, years_of, fall, rule_day_of, until_day_of, kind_of, time_of, stdoff_of, is_daylight, save_of, is_dash, names_set, rules_of, letters_of, format_of}
use Rattle.tz_specs.specs.Written.{WrittenRule, WrittenRules, WrittenUntil, WrittenLine, NoRules, FixedSave, RulesNamed}
use Rattle.tz_specs.specs.Record.{rule_day, rule_of, has_until, until_month, until_time, until_day, written_end, until_of, line_of}
use Rattle.tz_specs.proofs.Tests.{lt-int_lt}
use Rattle.tz_text_laws.proofs.Choices.{bind_some, only_some, map_some, some_same}
use Rattle.tz_text_laws.proofs.Digits.{year_within}
use Rattle.tz_text_laws.proofs.Amounts.{amount_within}
use Rattle.tz_text_laws.proofs.Formats.{format_form}

-- a rule whose values are in their ranges
pub record GoodRule (rule : WrittenRule) : Type 0 where
  pub from_in : IsWrittenYear rule.from
  pub to_in : IsWrittenYear rule.to
  pub ordered : rule.from ≤ℤ rule.to
  pub day_in : IsTrue (has_day_through rule.from rule.to rule.moment.month rule.moment.on)
  pub at_in : IsTimeOfDay rule.moment.at
  pub save_in : IsShift rule.save

pub record GoodUntil (until : WrittenUntil) : Type 0 where
  pub year_in : IsRuleYear until.year
  pub day_in : IsTrue (has_day until.year until.moment.month until.moment.on)
  pub at_in : IsTimeOfDay until.moment.at

abbrev pub is_good_save : WrittenRules → Bool
is_good_save NoRules = true
is_good_save (FixedSave save daylight) = is_shift save
is_good_save (RulesNamed name) = true

abbrev pub GoodEnd : Option WrittenUntil → Type 0
GoodEnd None = Unit {0}
GoodEnd (Some until) = GoodUntil until

pub record GoodLine (line : WrittenLine) : Type 0 where
  pub stdoff_in : IsShift line.stdoff
  pub save_in : IsTrue (is_good_save line.rules)
  pub format_in : IsTrue (is_format line.format)
  pub until_in : GoodEnd line.until

size_within : (limit : ℕ) (value : ℤ) → IsTrue (nat_le (unsigned_abs value) limit) → IsWithin limit value
size_within limit value h =
    let low : unsigned_abs value ≤ limit = grind (arith, nat_tests) in
    (omega (arith, signed_arith, low), omega (arith, signed_arith, low))

last_year : (from : ℤ) (word : List ℕ) (to : ℤ) → IsWrittenYear from → last_year_named from word ≡ Some to → IsWrittenYear to
last_year from word to from_in h =
    let place = bind_some (named_entry word last_year_table) (λ place. slice_index_or (Some (pos LAST_WRITTEN_YEAR) ∷ None ∷ Some from ∷ []) place None) to h in
    by_place place.0 place.2
  where
    by_place : (place : ℕ) → slice_index_or (Some (pos LAST_WRITTEN_YEAR) ∷ None ∷ Some from ∷ []) place None ≡ Some to → IsWrittenYear to
    by_place zero h =
        let same = some_same (pos LAST_WRITTEN_YEAR) to h in
        subst IsWrittenYear same (omega (arith, signed_arith), omega (arith, signed_arith))
    by_place (suc zero) h = absurd (cc)
    by_place (suc (suc zero)) h = subst IsWrittenYear (some_same from to h) from_in
    by_place (suc (suc (suc place))) h = absurd (cc)

years_in : (from_field to_field : List ℕ) (years : ℤ × ℤ) → years_of from_field to_field ≡ Some years → IsWrittenYear years.0 × IsWrittenYear years.1
unfolding years_of
years_in from_field to_field years h =
    let from = bind_some (year_of from_field) (λ from. or_else (year_of to_field) (last_year_named from to_field) >>= λ to. Some (from, to)) years h in
    let to = bind_some (or_else (year_of to_field) (last_year_named from.0 to_field)) (λ to. Some (from.0, to)) years from.2 in
    let same = some_same (from.0, to.0) years to.2 in
    let from_in = year_within from_field from.0 from.1 in
    (subst IsWrittenYear (ap (λ (it : ℤ × ℤ). it.0) same) from_in, subst IsWrittenYear (ap (λ (it : ℤ × ℤ). it.1) same) (by_year (year_of to_field) refl to.0 from.0 from_in to.1))
  where
    by_year : (year : Option ℤ) → year_of to_field ≡ year → (to from : ℤ) → IsWrittenYear from → or_else year (last_year_named from to_field) ≡ Some to → IsWrittenYear to
    by_year None is to from from_in h = last_year from to_field to from_in h
    by_year (Some year) is to from from_in h = subst IsWrittenYear (some_same year to h) (year_within to_field year is)

shift_in : (seconds : ℤ) → IsTrue (is_shift seconds) → IsShift seconds
shift_in seconds h = size_within LONGEST_SHIFT seconds h

time_in : (field : List ℕ) (time : ℤ × AtKind) → time_of field ≡ Some time → IsTimeOfDay time.0
time_in field time h =
    let amount = map_some (λ amount. (amount.0, kind_of amount.1)) (amount_of (codes "wsugz") field) time h in
    let same : amount.0.0 ≡ time.0 = ap (λ (it : ℤ × AtKind). it.0) amount.2 in
    subst IsTimeOfDay same (amount_within (codes "wsugz") field amount.0 amount.1)

save_in : (field : List ℕ) (save : ℤ × Bool) → save_of field ≡ Some save → IsTrue (is_shift save.0)
save_in field save h =
    let amount = bind_some (amount_of (codes "sd") field) (λ amount. only_if (is_shift amount.0) (amount.0, is_daylight amount)) save h in
    let test = only_some (is_shift amount.0.0) (amount.0.0, is_daylight amount.0) save amount.2 in
    let same : amount.0.0 ≡ save.0 = ap (λ (it : ℤ × Bool). it.0) test.1 in
    subst (λ it. IsTrue (is_shift it)) same test.0

stdoff_in : (field : List ℕ) (stdoff : ℤ) → stdoff_of field ≡ Some stdoff → IsShift stdoff
stdoff_in field stdoff h =
    let amount = bind_some (amount_of [] field) (λ amount. only_if (is_shift amount.0) amount.0) stdoff h in
    let test = only_some (is_shift amount.0.0) amount.0.0 stdoff amount.2 in
    subst IsShift test.1 (shift_in amount.0.0 test.0)

rising : (years : ℤ × ℤ) → fall (Some years) ≡ false → years.0 ≤ℤ years.1
rising years h = by_lt_z years.1 years.0 (λ lt. let bad : int_lt years.1 years.0 ≡ true = lt-int_lt years.1 years.0 lt in absurd (cc)) (λ le. le)

rule_day_in : (years : ℤ × ℤ) (month : Month) (field : List ℕ) (on : On) → rule_day_of (Some years) (Some month) field ≡ Some on → IsTrue (has_day_through years.0 years.1 month on)
unfolding rule_day_of
rule_day_in years month field on h =
    let day = bind_some (on_of field) (λ on. only_if (has_day_through years.0 years.1 month on) on) on h in
    let test = only_some (has_day_through years.0 years.1 month day.0) day.0 on day.2 in
    subst (λ it. IsTrue (has_day_through years.0 years.1 month it)) test.1 test.0

until_day_in : (year : ℤ) (month : Month) (field : List ℕ) (on : On) → until_day_of (Some year) (Some month) field ≡ Some on → IsTrue (has_day year month on)
unfolding until_day_of
until_day_in year month field on h =
    let day = bind_some (on_of field) (λ on. only_if (has_day year month on) on) on h in
    let test = only_some (has_day year month day.0) day.0 on day.2 in
    subst (λ it. IsTrue (has_day year month it)) test.1 test.0

-- the parts of a rule
record RuleParts (number : ℕ) (fields : List (List ℕ)) (rule : WrittenRule) : Type 0 where
  years : ℤ × ℤ
  years_are : years_of (field_at 2 fields) (field_at 3 fields) ≡ Some years
  month : Month
  month_is : month_named (field_at 5 fields) ≡ Some month
  on : On
  on_is : rule_day fields ≡ Some on
  time : ℤ × AtKind
  time_is : time_of (field_at 7 fields) ≡ Some time
  save : ℤ × Bool
  save_is : save_of (field_at 8 fields) ≡ Some save
  whole : record { from = years.0; to = years.1; moment = record { month = month; on = on; at = time.0; kind = time.1 }; save = save.0; daylight = save.1; letters = letters_of (field_at 9 fields); line = number } ≡ rule

made : (number : ℕ) (fields : List (List ℕ)) → ℤ × ℤ → Month → On → ℤ × AtKind → ℤ × Bool → WrittenRule
made number fields years month on time save =
    record { from = years.0; to = years.1; moment = record { month = month; on = on; at = time.0; kind = time.1 }; save = save.0; daylight = save.1; letters = letters_of (field_at 9 fields); line = number }

rule_parts : (number : ℕ) (fields : List (List ℕ)) (rule : WrittenRule) → rule_of number fields ≡ Some rule → RuleParts number fields rule
unfolding rule_of made
rule_parts number fields rule h =
    let years = bind_some (years_of (field_at 2 fields) (field_at 3 fields)) (λ years. month_named (field_at 5 fields) >>= λ month. rule_day fields >>= λ on. time_of (field_at 7 fields) >>= λ time. save_of (field_at 8 fields) >>= λ save. Some (made number fields years month on time save)) rule h in
    let month = bind_some (month_named (field_at 5 fields)) (λ month. rule_day fields >>= λ on. time_of (field_at 7 fields) >>= λ time. save_of (field_at 8 fields) >>= λ save. Some (made number fields years.0 month on time save)) rule years.2 in
    let on = bind_some (rule_day fields) (λ on. time_of (field_at 7 fields) >>= λ time. save_of (field_at 8 fields) >>= λ save. Some (made number fields years.0 month.0 on time save)) rule month.2 in
    let time = bind_some (time_of (field_at 7 fields)) (λ time. save_of (field_at 8 fields) >>= λ save. Some (made number fields years.0 month.0 on.0 time save)) rule on.2 in
    let save = bind_some (save_of (field_at 8 fields)) (λ save. Some (made number fields years.0 month.0 on.0 time.0 save)) rule time.2 in
    record {
      years = years.0;
      years_are = years.1;
      month = month.0;
      month_is = month.1;
      on = on.0;
      on_is = on.1;
      time = time.0;
      time_is = time.1;
      save = save.0;
      save_is = save.1;
      whole = some_same (made number fields years.0 month.0 on.0 time.0 save.0) rule save.2;
    }

-- the rule of a line without causes is in its ranges
pub rule_good : (number : ℕ) (fields : List (List ℕ)) (rule : WrittenRule) → rule_of number fields ≡ Some rule → fall (years_of (field_at 2 fields) (field_at 3 fields)) ≡ false → GoodRule rule × (rule.line ≡ number)
rule_good number fields rule h rises =
    let parts = rule_parts number fields rule h in
    let spans = years_in (field_at 2 fields) (field_at 3 fields) parts.years parts.years_are in
    let day : rule_day_of (Some parts.years) (Some parts.month) (field_at 6 fields) ≡ Some parts.on = rw (parts.years_are, parts.month_is) at parts.on_is in
    let good : GoodRule (record { from = parts.years.0; to = parts.years.1; moment = record { month = parts.month; on = parts.on; at = parts.time.0; kind = parts.time.1 }; save = parts.save.0; daylight = parts.save.1; letters = letters_of (field_at 9 fields); line = number }) =
    record {
      from_in = spans.0;
      to_in = spans.1;
      ordered = rising parts.years (rw parts.years_are at rises);
      day_in = rule_day_in parts.years parts.month (field_at 6 fields) parts.on day;
      at_in = time_in (field_at 7 fields) parts.time parts.time_is;
      save_in = shift_in parts.save.0 (save_in (field_at 8 fields) parts.save parts.save_is);
    } in
    (subst GoodRule parts.whole good, sym (ap (λ (it : WrittenRule). it.line) parts.whole))

year_in : (field : List ℕ) (year : ℤ) → rule_year_of field ≡ Some year → IsRuleYear year
year_in field year h =
    let number = bind_some (year_of field) (λ year. only_if (nat_le (unsigned_abs year) LAST_RULE_YEAR) year) year h in
    let test = only_some (nat_le (unsigned_abs number.0) LAST_RULE_YEAR) number.0 year number.2 in
    subst IsRuleYear test.1 (size_within LAST_RULE_YEAR number.0 test.0)

ended : ℤ → Month → On → ℤ × AtKind → WrittenUntil
ended year month on time = record { year = year; moment = record { month = month; on = on; at = time.0; kind = time.1 } }

end_good : (fields : List (List ℕ)) (until : WrittenUntil) → written_end fields ≡ Some until → GoodUntil until
unfolding written_end ended
end_good fields until h =
    let year = bind_some (rule_year_of (field_at 3 fields)) (λ year. month_named (until_month fields) >>= λ month. until_day fields >>= λ on. time_of (until_time fields) >>= λ time. Some (ended year month on time)) until h in
    let month = bind_some (month_named (until_month fields)) (λ month. until_day fields >>= λ on. time_of (until_time fields) >>= λ time. Some (ended year.0 month on time)) until year.2 in
    let on = bind_some (until_day fields) (λ on. time_of (until_time fields) >>= λ time. Some (ended year.0 month.0 on time)) until month.2 in
    let time = bind_some (time_of (until_time fields)) (λ time. Some (ended year.0 month.0 on.0 time)) until on.2 in
    let same : ended year.0 month.0 on.0 time.0 ≡ until = some_same (ended year.0 month.0 on.0 time.0) until time.2 in
    let day : until_day_of (Some year.0) (Some month.0) (field_or (codes "1") 5 fields) ≡ Some on.0 = sym (λ i. until_day_of (year.1 i) (month.1 i) (field_or (codes "1") 5 fields)) ∙ on.1 in
    let good : GoodUntil (ended year.0 month.0 on.0 time.0) =
    record {
      year_in = year_in (field_at 3 fields) year.0 year.1;
      day_in = until_day_in year.0 month.0 (field_or (codes "1") 5 fields) on.0 day;
      at_in = time_in (until_time fields) time.0 time.1;
    } in
    subst GoodUntil same good

until_good : (fields : List (List ℕ)) (until : Option WrittenUntil) → until_of fields ≡ Some until → GoodEnd until
until_good fields until h =
    ⊎_elim (λ (has : has_until fields ≡ true).
    let end = map_some Some (written_end fields) until (rw has at h) in
    subst GoodEnd end.2 (end_good fields end.0 end.1))
    (λ (none : has_until fields ≡ false). subst GoodEnd (some_same None until (rw none at h)) tt)
    (cases_Bool (has_until fields))

rules_good : (field : List ℕ) (rules : WrittenRules) → rules_of field ≡ Some rules → IsTrue (is_good_save rules)
rules_good field rules h =
    ⊎_elim (λ (dash : is_dash field ≡ true). subst (λ it. IsTrue (is_good_save it)) (some_same NoRules rules (rw dash at h)) refl)
    (λ (other : is_dash field ≡ false).
    ⊎_elim (λ (name : names_set field ≡ true).
    subst (λ it. IsTrue (is_good_save it)) (some_same (RulesNamed field) rules (rw (other, name) at h)) refl)
    (λ (amount : names_set field ≡ false).
    let save = map_some (λ save. FixedSave save.0 save.1) (save_of field) rules (rw (other, amount) at h) in
    subst (λ it. IsTrue (is_good_save it)) save.2 (save_in field save.0 save.1))
    (cases_Bool (names_set field)))
    (cases_Bool (is_dash field))

lined : ℕ → ℤ → WrittenRules → Format → Option WrittenUntil → WrittenLine
lined number stdoff rules format until = record { stdoff = stdoff; rules = rules; format = format; until = until; line = number }

-- the line of a zone without causes is in its ranges
pub line_good : (number : ℕ) (fields : List (List ℕ)) (line : WrittenLine) → line_of number fields ≡ Some line → length (field_at 2 fields) ≤ LONGEST_FORMAT → GoodLine line × (line.line ≡ number)
unfolding line_of lined
line_good number fields line h short =
    let stdoff = bind_some (stdoff_of (field_at 0 fields)) (λ stdoff. rules_of (field_at 1 fields) >>= λ rules. format_of (field_at 2 fields) >>= λ format. until_of fields >>= λ until. Some (lined number stdoff rules format until)) line h in
    let rules = bind_some (rules_of (field_at 1 fields)) (λ rules. format_of (field_at 2 fields) >>= λ format. until_of fields >>= λ until. Some (lined number stdoff.0 rules format until)) line stdoff.2 in
    let format = bind_some (format_of (field_at 2 fields)) (λ format. until_of fields >>= λ until. Some (lined number stdoff.0 rules.0 format until)) line rules.2 in
    let until = bind_some (until_of fields) (λ until. Some (lined number stdoff.0 rules.0 format.0 until)) line format.2 in
    let same : lined number stdoff.0 rules.0 format.0 until.0 ≡ line = some_same (lined number stdoff.0 rules.0 format.0 until.0) line until.2 in
    let good : GoodLine (lined number stdoff.0 rules.0 format.0 until.0) =
    record {
      stdoff_in = stdoff_in (field_at 0 fields) stdoff.0 stdoff.1;
      save_in = rules_good (field_at 1 fields) rules.0 rules.1;
      format_in = format_form (field_at 2 fields) format.0 format.1 short;
      until_in = until_good fields until.0 until.1;
    } in
    (subst GoodLine same good, sym (ap (λ (it : WrittenLine). it.line) same))
