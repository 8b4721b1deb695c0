use Rattle.std.proofs.Common.{◌≡◌, ◌||◌, ◌&&◌, true, false, None, drop, option_map, refl, sym, ◌∙◌, rules, FitsSigned, w64, to_z-of_z}
use Rattle.tz_specs.specs.Causes.{least_cause}
use Rattle.tz_specs.specs.Value.{field_at, names_set, is_long_name}
use Rattle.tz_specs.specs.Written.{written_until}
use Rattle.tz_specs.specs.Record.{line_causes}
use Rattle.tz_records.proofs.ZoneLines.{values_said, end_refused, long_format, last_cause, line_said}
use Rattle.tz_records.proofs.zone_line.zone_line.Goals as goal

pub returns-in-Err : goal.returns-in-Err
returns-in-Err c =
    end_refused c.args.badly_named c.args.long_named (drop c.args.first c.args.fields.now.first) c.in-Err.cause c.in-Err.ensures

pub returns-then-field-gt-LONGEST_FORMAT : goal.returns-then-field-gt-LONGEST_FORMAT
returns-then-field-gt-LONGEST_FORMAT c =
    let fields = drop c.args.first c.args.fields.now.first in
    let said = values_said c.args.badly_named _ fields _ _ _ c.in-Some.stdoff c.in-Some-rules_field.rules c.in-Some-format_field.format c.in-Ok.ensures.0 c.field_at.ensures c.in-Some.ensures.value c.field_at-2.ensures c.in-Some-rules_field.ensures.value c.in-Some-rules_field.ensures.bad c.field_at-field.ensures c.in-Some-format_field.ensures.value c.if-badly_named.false c.is_badly_named.ensures c.if-is_badly_named.false in
    long_format c.args.badly_named c.args.long_named fields _ _ _ said (rw c.field_at-field.ensures at c.if-field-gt-LONGEST_FORMAT.true)

pub returns-then-has_long_name : goal.returns-then-has_long_name
returns-then-has_long_name c =
    let fields = drop c.args.first c.args.fields.now.first in
    let said = values_said c.args.badly_named _ fields _ _ _ c.in-Some.stdoff c.in-Some-rules_field.rules c.in-Some-format_field.format c.in-Ok.ensures.0 c.field_at.ensures c.in-Some.ensures.value c.field_at-2.ensures c.in-Some-rules_field.ensures.value c.in-Some-rules_field.ensures.bad c.field_at-field.ensures c.in-Some-format_field.ensures.value c.if-badly_named.false c.is_badly_named.ensures c.if-is_badly_named.false in
    let long = rw c.field_at-2.ensures at c.in-Some-rules_field.ensures.long in
    let beyond : (c.args.long_named || (names_set (field_at 1 fields) && is_long_name (field_at 1 fields))) ≡ true = rw long at (sym c.has_long_name.ensures ∙ c.if-has_long_name.true) in
    last_cause c.args.badly_named c.args.long_named true fields _ _ _ said (rw c.field_at-field.ensures at c.if-field-gt-LONGEST_FORMAT.false) beyond

pub returns : goal.returns
returns c =
    let fields = drop c.args.first c.args.fields.now.first in
    let said = values_said c.args.badly_named _ fields _ _ _ c.in-Some.stdoff c.in-Some-rules_field.rules c.in-Some-format_field.format c.in-Ok.ensures.0 c.field_at.ensures c.in-Some.ensures.value c.field_at-2.ensures c.in-Some-rules_field.ensures.value c.in-Some-rules_field.ensures.bad c.field_at-field.ensures c.in-Some-format_field.ensures.value c.if-badly_named.false c.is_badly_named.ensures c.if-is_badly_named.false in
    let long = rw c.field_at-2.ensures at c.in-Some-rules_field.ensures.long in
    let within : (c.args.long_named || (names_set (field_at 1 fields) && is_long_name (field_at 1 fields))) ≡ false = rw long at (sym c.has_long_name.ensures ∙ c.if-has_long_name.false) in
    let none : least_cause (line_causes c.args.badly_named c.args.long_named fields) ≡ None =
    last_cause c.args.badly_named c.args.long_named false fields _ _ _ said (rw c.field_at-field.ensures at c.if-field-gt-LONGEST_FORMAT.false) within in
    let fits : FitsSigned w64 c.in-Some.stdoff = search rules in
    let is = rw c.rules.ensures.value at (simp to_z-of_z at c.entry_line.ensures) in
    (none, line_said c.args.badly_named c.args.number fields _ _ _ (option_map written_until c.in-Ok.until) said c.in-Ok.ensures.1 ∙ rw is refl)
