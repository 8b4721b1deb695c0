-- What `{}` prints of a fault.
use Rattle.std.specs.Prelude.{ℕ, ◌==◌, if◌then◌else◌, List, ◌++◌, codes, Option, Some, None}
use Rattle.std.specs.Fmt.{decimal}
use Rattle.tz_types.specs.declared.cause.Cause.{Cause}
use Rattle.tz_types.specs.declared.fault.Fault.{Fault}
use Rattle.tz_types.specs.Cause.{cause_numbered, cause_text}

-- the file, where there are several, the line, the number of the cause, and what is said of that
abbrev pub fault_text : Fault → List ℕ
fault_text fault =
    if fault.file == 0 then line_text fault
    else codes "file " ++ decimal fault.file ++ codes ", " ++ line_text fault
  where
    number_text : ℕ → List ℕ
    number_text cause = codes ", cause " ++ decimal cause

    words : ℕ → Option Cause → List ℕ
    words number None = number_text number
    words number (Some cause) = number_text number ++ codes ": " ++ cause_text cause

    line_text : Fault → List ℕ
    line_text fault = codes "line " ++ decimal fault.line ++ words fault.cause (cause_numbered fault.cause)
