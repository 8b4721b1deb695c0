-- The rules that a field of a zone's line tells.
use Rattle.std.specs.Prelude.{Bool, true, false}
use Rattle.tz_types.specs.Amount.{is_shift}
use Rattle.tz_specs.specs.Value.{is_bad_name, is_long_name}
use Rattle.tz_specs.specs.Written.{WrittenRules, NoRules, FixedSave, RulesNamed}
use Rattle.tz_records.specs.declared.rules_field.RulesField.{RulesField}
use Rattle.tz_records.specs.declared.rules_field.RulesField.TheVariants as fields

abbrev pub rules_told : RulesField → WrittenRules
rules_told fields.Plain = NoRules
rules_told (fields.Fixed save daylight) = FixedSave save daylight
rules_told (fields.Named name) = RulesNamed name.now

-- a fixed save is at most a day, with either sign
abbrev pub has_shift : RulesField → Bool
has_shift fields.Plain = true
has_shift (fields.Fixed save daylight) = is_shift save
has_shift (fields.Named name) = true

-- the name of a rule set is bad, or too long

abbrev pub is_badly_named : RulesField → Bool
is_badly_named fields.Plain = false
is_badly_named (fields.Fixed save daylight) = false
is_badly_named (fields.Named name) = is_bad_name name.now

abbrev pub is_long_named : RulesField → Bool
is_long_named fields.Plain = false
is_long_named (fields.Fixed save daylight) = false
is_long_named (fields.Named name) = is_long_name name.now
