-- What the lines of a script give, line by line.
use Rattle.std.proofs.Common.{◌≡◌, ℕ, ◌+◌, List, [], ◌∷◌, Option, Ok, Err, refl}
use Rattle.tz_script.specs.Cause.{script_fault_at}
use Rattle.tz_script.specs.Contents.{ScriptContents, with_line_said}
use Rattle.tz_script.specs.Line.{script_line_says}
use Rattle.tz_script.specs.Script.{script_contents_after}
use Rattle.tz_script.specs.declared.cause.ScriptCause.{ScriptCause}
use Rattle.tz_script.specs.declared.statement.Statement.{Statement}

-- no more lines
pub after_none : (sources : ℕ) (contents : ScriptContents) (number : ℕ) → script_contents_after sources contents number [] ≡ Ok contents
unfolding script_contents_after
after_none sources contents number = refl

-- a line that says something, or nothing
pub after_said : (sources : ℕ) (contents : ScriptContents) (number : ℕ) (line : List ℕ) (lines : List (List ℕ)) (said : Option Statement) → script_line_says sources contents line ≡ Ok said → script_contents_after sources contents number (line ∷ lines) ≡ script_contents_after sources (with_line_said number said contents) (number + 1) lines
unfolding script_contents_after
after_said sources contents number line lines said e = rw (e, script_contents_after) refl

-- a line with a cause
pub after_cause : (sources : ℕ) (contents : ScriptContents) (number : ℕ) (line : List ℕ) (lines : List (List ℕ)) (cause : ScriptCause) → script_line_says sources contents line ≡ Err cause → script_contents_after sources contents number (line ∷ lines) ≡ Err (script_fault_at number cause)
unfolding script_contents_after
after_cause sources contents number line lines cause e = rw (e, script_contents_after) refl
