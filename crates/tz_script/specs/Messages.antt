-- What `{}` prints of an error.
use Rattle.std.specs.Prelude.{ℕ, List, ◌++◌, codes, Option, Some, None}
use Rattle.std.specs.Fmt.{decimal}
use Rattle.tz_script.specs.declared.cause.ScriptCause.{ScriptCause}
use Rattle.tz_script.specs.declared.error.ScriptError.{ScriptError}
use Rattle.tz_script.specs.declared.error.ScriptError.TheVariants as errors
use Rattle.tz_script.specs.Cause.{script_cause_numbered, script_cause_text}

abbrev pub script_error_text : ScriptError → List ℕ
script_error_text errors.NoMemory = codes "memory ran out"
script_error_text (errors.Fault fault) =
    codes "line " ++ decimal fault.line ++ words fault.cause (script_cause_numbered fault.cause)
  where
    number_text : ℕ → List ℕ
    number_text cause = codes ", cause " ++ decimal cause

    words : ℕ → Option ScriptCause → List ℕ
    words number None = number_text number
    words number (Some cause) = number_text number ++ codes ": " ++ script_cause_text cause
