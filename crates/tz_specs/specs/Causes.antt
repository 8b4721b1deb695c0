-- Of the causes that a line has, the least is told.
use Rattle.std.specs.Prelude.{ℕ, Bool, if◌then◌else◌, List, [], ◌∷◌, Option, Some, None, Result, Ok, Err}
use Rattle.tz_types.specs.Cause.{cause_number}
use Rattle.tz_types.specs.declared.cause.Cause.{Cause}
use Rattle.tz_types.specs.declared.fault.LineFault.{LineFault}

-- A list of causes is in rising order, each with whether it holds. The first that holds is the least.
abbrev pub least_cause : List (Cause × Bool) → Option Cause
least_cause [] = None
least_cause (row ∷ rows) = if row.1 then Some row.0 else least_cause rows

-- the cause, where there is one
abbrev pub unless_cause : {A : Type 0} → Option Cause → A → Result A Cause
unless_cause None x = Ok x
unless_cause (Some cause) x = Err cause

-- why a text is refused, and at which line
abbrev pub fault_at : ℕ → Cause → LineFault
fault_at number cause = record { line = number; cause = cause_number cause }
