-- What a line of a zone text says by itself: whatever stands before it, but for whether a zone waits for the line.
use Rattle.std.specs.Prelude.{◌≡◌, ℕ, Bool, List, Option, Some}
use Rattle.tz_types.specs.declared.cause.Cause.{Cause}
use Rattle.tz_specs.specs.Field.{fields_of}
use Rattle.tz_specs.specs.Causes.{least_cause}
use Rattle.tz_specs.specs.Written.{Record}
use Rattle.tz_specs.specs.Contents.{Contents, waits, fields_or_none, causes_of_line, record_of_fields}
use Rattle.tz_records.specs.Counts.{count_causes}

-- the line has this cause, its least, also wherever it stands
abbrev pub RefusesAlone : Bool → List ℕ → Cause → Type 0
RefusesAlone waiting line cause =
    (before : Contents) (place : ℕ) → waits before ≡ waiting → least_cause (causes_of_line before place line) ≡ Some cause

-- the line says this, or nothing where it is blank, and has no causes but those of counts
pub record SaysAlone (waiting : Bool) (number : ℕ) (line : List ℕ) (said : Option Record) : Type 0 where
  pub record_is : (before : Contents) → waits before ≡ waiting → record_of_fields before number (fields_or_none (fields_of line)) ≡ said
  pub cause_is : (before : Contents) (place : ℕ) → waits before ≡ waiting → least_cause (causes_of_line before place line) ≡ least_cause (count_causes before place said)
