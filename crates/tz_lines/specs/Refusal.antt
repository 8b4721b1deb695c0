-- When lines, files, a source or a leap text are refused.
use Rattle.std.specs.Prelude.{◌≡◌, ℕ, List, Option, Some, None, Result, Err}
use Rattle.tz_types.specs.Reason.{HasReason}
use Rattle.tz_types.specs.declared.fault.LineFault.{LineFault}
use Rattle.tz_types.specs.declared.fault.Fault.{Fault}
use Rattle.tz_types.specs.declared.source.Source.{Source}
use Rattle.tz_specs.specs.Reads.{RefusesFiles, Refuses}
use Rattle.tz_specs.specs.LeapText.{RefusesLeaps}
use Rattle.tz_database.specs.declared.error.BuildError.{BuildError}
use Rattle.tz_database.specs.declared.error.BuildError.TheVariants as build_errors
use Rattle.tz_lines.specs.declared.error.LineError.{LineError}
use Rattle.tz_lines.specs.declared.error.LineError.TheVariants as line_errors
use Rattle.tz_lines.specs.declared.error.ReadError.{ReadError}
use Rattle.tz_lines.specs.declared.error.ReadError.TheVariants as errors

-- the error of lines for one of the build
abbrev pub line_error : BuildError → LineError
line_error build_errors.NoMemory = line_errors.NoMemory
line_error (build_errors.Fault line cause) = line_errors.Fault (record { line = line; cause = cause })

-- the fault that is the reason of an error, which want of memory has none of

abbrev pub line_fault_of : LineError → Option LineFault
line_fault_of line_errors.NoMemory = None
line_fault_of (line_errors.Fault fault) = Some fault

abbrev pub fault_of : ReadError → Option Fault
fault_of errors.NoMemory = None
fault_of (errors.Fault fault) = Some fault

-- A fault comes only where it is the outcome of the lines.
abbrev pub MeansLineFault : {A : Type 0} → LineError → Result A LineFault → Type 0
MeansLineFault error outcome = HasReason (λ fault. outcome ≡ Err fault) (line_fault_of error)

-- A fault comes only where the files are refused with it.
abbrev pub MeansFilesFault : LineError → List (List ℕ) → Type 0
MeansFilesFault error files = HasReason (RefusesFiles files) (line_fault_of error)

-- A fault comes only where the source is refused with it.
abbrev pub MeansFault : ReadError → Source → Type 0
MeansFault error source = HasReason (Refuses source) (fault_of error)

-- A fault comes only where the leap text is refused with it.
abbrev pub MeansLeapFault : LineError → List ℕ → Type 0
MeansLeapFault error text = HasReason (RefusesLeaps text) (line_fault_of error)

-- The same of a leap text that is read alone: its file is 0.
abbrev pub MeansRefusal : ReadError → List ℕ → Type 0
MeansRefusal error text =
    HasReason (λ fault. (fault.file ≡ 0) × RefusesLeaps text (record { line = fault.line; cause = fault.cause })) (fault_of error)
