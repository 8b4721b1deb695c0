use Rattle.std.proofs.Common.{◌≡◌, true, false, Some, None, sym, ◌∙◌, rules, FitsSigned, w64, to_z-of_z}
use Rattle.tz_specs.specs.Causes.{least_cause}
use Rattle.tz_specs.specs.Value.{field_at, is_long_name, letters_of, save_of}
use Rattle.tz_specs.specs.Record.{rule_causes}
use Rattle.tz_records.specs.RuleFields.{written_recurrence}
use Rattle.tz_records.proofs.RuleLines.{values_said, long_letters, last_cause, rule_said}
use Rattle.tz_records.proofs.rule_line.rule_entry.Goals as goal

pub returns-then-bytes-gt-LONGEST_LETTERS : goal.returns-then-bytes-gt-LONGEST_LETTERS
returns-then-bytes-gt-LONGEST_LETTERS c =
    let fields = c.args.fields.now.first in
    let save : Some (c.in-Some.save, c.in-Some.daylight) ≡ save_of c.get.result.now = c.in-Some.ensures.value in
    let letters : c.letter_bytes-bytes.result.now ≡ letters_of (field_at 9 fields) = rw c.get-2.ensures at c.letter_bytes-bytes.ensures in
    let said = values_said _ _ _ fields _ _ _ (written_recurrence c.in-Ok.recurrence) (c.in-Some.save, c.in-Some.daylight) c.in-Ok.ensures.0 c.in-Ok.ensures.1 c.get.ensures save c.get-name.ensures c.is_bad_name.ensures c.if-is_bad_name.false c.starts_amount.ensures c.if-starts_amount.false letters c.are_visible.ensures c.if-not-are_visible.false in
    long_letters fields _ _ said (rw letters at c.if-bytes-gt-LONGEST_LETTERS.true)

pub returns-then-is_long_name : goal.returns-then-is_long_name
returns-then-is_long_name c =
    let fields = c.args.fields.now.first in
    let save : Some (c.in-Some.save, c.in-Some.daylight) ≡ save_of c.get.result.now = c.in-Some.ensures.value in
    let letters : c.letter_bytes-bytes.result.now ≡ letters_of (field_at 9 fields) = rw c.get-2.ensures at c.letter_bytes-bytes.ensures in
    let said = values_said _ _ _ fields _ _ _ (written_recurrence c.in-Ok.recurrence) (c.in-Some.save, c.in-Some.daylight) c.in-Ok.ensures.0 c.in-Ok.ensures.1 c.get.ensures save c.get-name.ensures c.is_bad_name.ensures c.if-is_bad_name.false c.starts_amount.ensures c.if-starts_amount.false letters c.are_visible.ensures c.if-not-are_visible.false in
    let beyond : is_long_name (field_at 1 fields) ≡ true = rw c.get-name.ensures at (sym c.is_long_name.ensures ∙ c.if-is_long_name.true) in
    last_cause true fields _ _ said (rw letters at c.if-bytes-gt-LONGEST_LETTERS.false) beyond

pub returns : goal.returns
returns c =
    let fields = c.args.fields.now.first in
    let save : Some (c.in-Some.save, c.in-Some.daylight) ≡ save_of c.get.result.now = c.in-Some.ensures.value in
    let letters : c.letter_bytes-bytes.result.now ≡ letters_of (field_at 9 fields) = rw c.get-2.ensures at c.letter_bytes-bytes.ensures in
    let said = values_said _ _ _ fields _ _ _ (written_recurrence c.in-Ok.recurrence) (c.in-Some.save, c.in-Some.daylight) c.in-Ok.ensures.0 c.in-Ok.ensures.1 c.get.ensures save c.get-name.ensures c.is_bad_name.ensures c.if-is_bad_name.false c.starts_amount.ensures c.if-starts_amount.false letters c.are_visible.ensures c.if-not-are_visible.false in
    let within : is_long_name (field_at 1 fields) ≡ false = rw c.get-name.ensures at (sym c.is_long_name.ensures ∙ c.if-is_long_name.false) in
    let none : least_cause (rule_causes false fields) ≡ None =
    last_cause false fields _ _ said (rw letters at c.if-bytes-gt-LONGEST_LETTERS.false) within in
    let fits : FitsSigned w64 c.in-Some.save = search rules in
    let is = simp to_z-of_z at c.rule.ensures in
    (none, rule_said c.args.number fields _ _ _ _ _ said (c.of_field.ensures ∙ c.get-name.ensures) (c.letters.ensures ∙ letters) is)
