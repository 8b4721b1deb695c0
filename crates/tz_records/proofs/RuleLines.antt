-- What a Rule line says, by its two parts.
use Rattle.std.proofs.Common.{◌≡◌, ℕ, ◌<◌, ◌≤◌, nat_lt, Bool, true, false, not, ◌||◌, if◌then◌else◌, length, List, [], ◌∷◌, ◌++◌, ℤ, Option, Some, None, refl, sym, ap, ◌∙◌}
use Rattle.std.specs.Option.{is_none}
use Rattle.std.specs.List.{list_all}
use Rattle.std.proofs.lemmas.Bool.{lt-ltb, le-ltb}
use Rattle.std.proofs.Math.Bool.{or-false}
use Rattle.tz_types.specs.declared.limit.TheConstants.{LONGEST_LETTERS}
use Rattle.tz_types.specs.Text.{is_printable}
use Rattle.tz_types.specs.declared.cause.Cause.TheVariants as causes
use Rattle.tz_types.specs.declared.calendar.Month.{Month}
use Rattle.tz_types.specs.declared.calendar.On.{On}
use Rattle.tz_types.specs.declared.moment.AtKind.{AtKind}
use Rattle.tz_types.specs.declared.cause.Cause.{Cause}
use Rattle.tz_specs.specs.Choice.{◌>>=◌}
use Rattle.tz_specs.specs.Causes.{least_cause}
use Rattle.tz_specs.specs.Value.{field_at, years_of, month_named, time_of, save_of, letters_of, is_bad_name, is_long_name, starts_amount}
use Rattle.tz_specs.specs.Written.{WrittenRule, RuleRecord}
use Rattle.tz_specs.specs.Record.{RuleLine, rule_day, rule_of, rule_causes, record_of}
use Rattle.tz_records.specs.RuleFields.{WrittenRecurrence, rule_with, recurrence_of, recurrence_causes, setting_causes}
use Rattle.tz_records.proofs.LeastCauses.{least_before, least_after}

parts_of_causes : (fields : List (List ℕ)) → rule_causes false fields ≡ recurrence_causes fields ++ setting_causes fields
unfolding rule_causes recurrence_causes setting_causes
parts_of_causes fields = rw (or-false (is_long_name (field_at 1 fields))) refl

pub recurrence_refused : (fields : List (List ℕ)) (cause : Cause) → least_cause (recurrence_causes fields) ≡ Some cause → least_cause (rule_causes false fields) ≡ Some cause
recurrence_refused fields cause h =
    rw (parts_of_causes fields) (least_before (recurrence_causes fields) (setting_causes fields) cause h)

pub recurrence_told : (fields : List (List ℕ)) → least_cause (recurrence_causes fields) ≡ None → least_cause (rule_causes false fields) ≡ least_cause (setting_causes fields)
recurrence_told fields h =
    rw (parts_of_causes fields) (least_after (recurrence_causes fields) (setting_causes fields) h)

by_steps : (years : Option (ℤ × ℤ)) (month : Option Month) (on : Option On) (time : Option (ℤ × AtKind)) (save : Option (ℤ × Bool)) (letters : List ℕ) (number : ℕ) (recurrence : WrittenRecurrence) (told : ℤ × Bool) →
    (years >>= λ y. month >>= λ m. on >>= λ o. time >>= λ t. Some (record { from = y.0; to = y.1; moment = record { month = m; on = o; at = t.0; kind = t.1 } })) ≡ Some recurrence →
    save ≡ Some told →
    (years >>= λ y. month >>= λ m. on >>= λ o. time >>= λ t. save >>= λ s. Some (record { from = y.0; to = y.1; moment = record { month = m; on = o; at = t.0; kind = t.1 }; save = s.0; daylight = s.1; letters = letters; line = number })) ≡ Some (rule_with number letters recurrence told)
by_steps None month on time save letters number recurrence told e f = cc
by_steps (Some y) None on time save letters number recurrence told e f = cc
by_steps (Some y) (Some m) None time save letters number recurrence told e f = cc
by_steps (Some y) (Some m) (Some o) None save letters number recurrence told e f = cc
by_steps (Some y) (Some m) (Some o) (Some t) save letters number recurrence told e f =
    let is : record { from = y.0; to = y.1; moment = record { month = m; on = o; at = t.0; kind = t.1 } } ≡ recurrence = cc in
    rw f (ap (λ (it : WrittenRecurrence). Some (rule_with number letters it told)) is)

rule_told : (number : ℕ) (fields : List (List ℕ)) (recurrence : WrittenRecurrence) (save : ℤ × Bool) → recurrence_of fields ≡ Some recurrence → save_of (field_at 8 fields) ≡ Some save → rule_of number fields ≡ Some (rule_with number (letters_of (field_at 9 fields)) recurrence save)
unfolding rule_of recurrence_of
rule_told number fields recurrence save e f =
    by_steps (years_of (field_at 2 fields) (field_at 3 fields)) (month_named (field_at 5 fields)) (rule_day fields) (time_of (field_at 7 fields)) (save_of (field_at 8 fields)) (letters_of (field_at 9 fields)) number recurrence save e f

-- the tests of what a rule sets, in the order of their causes
by_tests : (no_save bad start shown : Bool) (long name_long : Bool) → no_save ≡ false → bad ≡ false → start ≡ false → shown ≡ true → least_cause ((causes.Save, no_save) ∷ (causes.BadName, bad || start) ∷ (causes.Format, not shown) ∷ (causes.LongAbbrev, long) ∷ (causes.Limit, name_long) ∷ []) ≡ (if long then Some causes.LongAbbrev else (if name_long then Some causes.Limit else None))
by_tests no_save bad start shown long name_long a b c d = rw (a, b, c, d) refl

-- a rule whose values are all there
pub record IsSaid (fields : List (List ℕ)) (recurrence : WrittenRecurrence) (save : ℤ × Bool) : Type 0 where
  pub no_cause : least_cause (recurrence_causes fields) ≡ None
  pub recurrence_is : recurrence_of fields ≡ Some recurrence
  pub save_is : save_of (field_at 8 fields) ≡ Some save
  pub good_name : is_bad_name (field_at 1 fields) ≡ false
  pub no_amount : starts_amount (field_at 1 fields) ≡ false
  pub visible : list_all is_printable (letters_of (field_at 9 fields)) ≡ true

-- the values that the fields give
pub values_said : (bad starts visible : Bool) (fields : List (List ℕ)) (name eighth letters : List ℕ) (recurrence : WrittenRecurrence) (save : ℤ × Bool) → least_cause (recurrence_causes fields) ≡ None → recurrence_of fields ≡ Some recurrence → eighth ≡ field_at 8 fields → Some save ≡ save_of eighth → name ≡ field_at 1 fields → bad ≡ is_bad_name name → bad ≡ false → starts ≡ starts_amount name → starts ≡ false → letters ≡ letters_of (field_at 9 fields) → visible ≡ list_all is_printable letters → visible ≡ true → IsSaid fields recurrence save
values_said bad starts visible fields name eighth letters recurrence save none e at_eighth f named is_bad good is_start other lettered is_seen seen =
    record {
      no_cause = none;
      recurrence_is = e;
      save_is = rw at_eighth at (sym f);
      good_name = rw named at (sym is_bad ∙ good);
      no_amount = rw named at (sym is_start ∙ other);
      visible = rw lettered at (sym is_seen ∙ seen);
    }

late_causes : (fields : List (List ℕ)) (recurrence : WrittenRecurrence) (save : ℤ × Bool) → IsSaid fields recurrence save → least_cause (rule_causes false fields) ≡ (if nat_lt LONGEST_LETTERS (length (letters_of (field_at 9 fields))) then Some causes.LongAbbrev else (if is_long_name (field_at 1 fields) then Some causes.Limit else None))
unfolding setting_causes
late_causes fields recurrence save said =
    recurrence_told fields said.no_cause ∙ by_tests (is_none (save_of (field_at 8 fields))) (is_bad_name (field_at 1 fields)) (starts_amount (field_at 1 fields)) (list_all is_printable (letters_of (field_at 9 fields))) (nat_lt LONGEST_LETTERS (length (letters_of (field_at 9 fields)))) (is_long_name (field_at 1 fields)) (rw said.save_is refl) said.good_name said.no_amount said.visible

pub long_letters : (fields : List (List ℕ)) (recurrence : WrittenRecurrence) (save : ℤ × Bool) → IsSaid fields recurrence save → LONGEST_LETTERS < length (letters_of (field_at 9 fields)) → least_cause (rule_causes false fields) ≡ Some causes.LongAbbrev
long_letters fields recurrence save said long =
    late_causes fields recurrence save said ∙ rw (lt-ltb LONGEST_LETTERS (length (letters_of (field_at 9 fields))) long) refl

-- the last cause, or none
pub last_cause : (beyond : Bool) (fields : List (List ℕ)) (recurrence : WrittenRecurrence) (save : ℤ × Bool) → IsSaid fields recurrence save → length (letters_of (field_at 9 fields)) ≤ LONGEST_LETTERS → is_long_name (field_at 1 fields) ≡ beyond → least_cause (rule_causes false fields) ≡ (if beyond then Some causes.Limit else None)
last_cause beyond fields recurrence save said short is =
    late_causes fields recurrence save said ∙ rw (le-ltb LONGEST_LETTERS (length (letters_of (field_at 9 fields))) short, is) refl

-- what the line says
pub rule_said : (number : ℕ) (fields : List (List ℕ)) (name letters : List ℕ) (recurrence : WrittenRecurrence) (save : ℤ × Bool) (rule : WrittenRule) → IsSaid fields recurrence save → name ≡ field_at 1 fields → letters ≡ letters_of (field_at 9 fields) → rule ≡ rule_with number letters recurrence save → record_of RuleLine number fields ≡ Some (RuleRecord name rule)
rule_said number fields name letters recurrence save rule said named lettered is =
    rw (rule_told number fields recurrence save said.recurrence_is said.save_is, is, named, lettered) refl
