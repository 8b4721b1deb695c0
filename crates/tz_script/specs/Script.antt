-- What a script says, or why it is refused.
use Rattle.std.specs.Prelude.{◌≡◌, ℕ, ◌+◌, Bool, not, ◌⊎◌, if◌then◌else◌, List, [], ◌∷◌, Option, Some, None, Result, Ok, Err}
use Rattle.std.specs.List.{list_all}
use Rattle.tz_types.specs.declared.fault.LineFault.{LineFault}
use Rattle.tz_specs.specs.Line.{lines_of}
use Rattle.tz_script.specs.Cause.{script_fault_at}
use Rattle.tz_script.specs.Contents.{ScriptContents, no_script_contents, first_left, with_line_said}
use Rattle.tz_script.specs.Line.{has_word, script_line_says}
use Rattle.tz_script.specs.Words.{line_words, is_bad_line}
use Rattle.tz_script.specs.declared.cause.ScriptCause.TheVariants as causes
use Rattle.tz_script.specs.declared.script.Script.{Script}

-- What lines give, numbered from a number on, by what stands before them; or the fault of the first line that has a
-- cause, with its least.
unfoldable pub script_contents_after : ℕ → ScriptContents → ℕ → List (List ℕ) → Result ScriptContents LineFault
script_contents_after sources contents number [] = Ok contents
script_contents_after sources contents number (line ∷ lines) =
    elim (script_line_says sources contents line) [
      | Ok said ↦ script_contents_after sources (with_line_said number said contents) (number + 1) lines
      | Err cause ↦ Err (script_fault_at number cause)
    ]

-- no line has a word
abbrev pub are_blank : List (List ℕ) → Bool
are_blank lines = list_all (λ line. not (has_word (line_words line))) lines

-- Where no line has a word, none says how many lanes there are. That is told of line 1, unless it has a lesser cause.
abbrev pub blank_fault : List (List ℕ) → LineFault
blank_fault [] = script_fault_at 1 causes.Lanes
blank_fault (line ∷ lines) = script_fault_at 1 (if is_bad_line line then causes.Line else causes.Lanes)

-- what all lines of a text give
unfoldable pub script_contents_of : ℕ → List ℕ → Result ScriptContents LineFault
script_contents_of sources text =
    if are_blank (lines_of text) then Err (blank_fault (lines_of text))
    else script_contents_after sources no_script_contents 1 (lines_of text)

-- Why a script is refused whose lines have no cause of their own: no line says how many lanes there are, or a hold
-- isn't dropped in its round.
abbrev pub whole_fault : ScriptContents → Option LineFault
whole_fault contents = by_parts contents.lanes (first_left contents)
  where
    by_parts : Option ℕ → Option ℕ → Option LineFault
    by_parts None left = Some (script_fault_at 1 causes.Lanes)
    by_parts (Some lanes) None = None
    by_parts (Some lanes) (Some line) = Some (script_fault_at line causes.HoldOpen)

-- The text has no fault, and the script is what its lines give. There are so many texts to reload.
pub record ReadsScript (sources : ℕ) (text : List ℕ) (script : Script) : Type 0 where
  pub contents : ScriptContents
  pub given : script_contents_of sources text ≡ Ok contents
  pub no_fault : whole_fault contents ≡ None
  pub lanes : contents.lanes ≡ Some script.lanes
  pub rounds : script.rounds ≡ contents.rounds
  pub operations : script.operations ≡ contents.operations

-- The text as a whole is refused: its lines give contents that have this fault.
pub record RefusesWholeScript (sources : ℕ) (text : List ℕ) (fault : LineFault) : Type 0 where
  pub contents : ScriptContents
  pub given : script_contents_of sources text ≡ Ok contents
  pub told : whole_fault contents ≡ Some fault

-- the text is refused, by one of its lines or as a whole
abbrev pub RefusesScript : ℕ → List ℕ → LineFault → Type 0
RefusesScript sources text fault =
    (script_contents_of sources text ≡ Err fault) ⊎ RefusesWholeScript sources text fault
