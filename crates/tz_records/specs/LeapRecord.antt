-- Records of leap texts, as the reader has them.
use Rattle.std.specs.Prelude.{◌≡◌, ℕ, List, ◌++◌, Option, option_map, Result, Ok, Err}
use Rattle.tz_types.specs.declared.cause.Cause.{Cause}
use Rattle.tz_specs.specs.Causes.{least_cause, unless_cause}
use Rattle.tz_specs.specs.LineCauses.{number_causes}
use Rattle.tz_specs.specs.LeapLine.{SecondRecord, ExpiryRecord, SecondLine, ExpiryLine, leap_field_causes, leap_record_of_fields}
use Rattle.tz_specs.specs.LeapLine as lines
use Rattle.tz_records.specs.declared.leap_record.LeapRecord.{LeapRecord}
use Rattle.tz_records.specs.declared.leap_record.LeapRecord.TheVariants as records
use Rattle.tz_records.specs.declared.leap_record.LeapKind.{LeapKind}
use Rattle.tz_records.specs.declared.leap_record.LeapKind.TheVariants as kinds

abbrev pub kind_meant : LeapKind → lines.LeapKind
kind_meant kinds.Second = SecondLine
kind_meant kinds.Expiry = ExpiryLine

abbrev pub record_meant : LeapRecord → lines.LeapRecord
record_meant (records.Second entry) = SecondRecord entry
record_meant (records.Expiry moment) = ExpiryRecord moment

-- what the fields of a line say, by its number and by how many leap seconds stand before it
abbrev pub leap_fields_say : ℕ → ℕ → List (List ℕ) → Result (Option lines.LeapRecord) Cause
leap_fields_say number earlier fields =
    unless_cause (least_cause (leap_field_causes earlier fields ++ number_causes number))
    (leap_record_of_fields fields)

-- the reader's result stands for what is said
abbrev pub Means : Result (Option LeapRecord) Cause → Result (Option lines.LeapRecord) Cause → Type 0
Means (Ok said) outcome = outcome ≡ Ok (option_map record_meant said)
Means (Err cause) outcome = outcome ≡ Err cause
