-- What the lines of a script give, one after another.
use Rattle.std.specs.Prelude.{ℕ, ◌+◌, if◌then◌else◌, List, [], ◌∷◌, ◌++◌, Option, Some, None}
use Rattle.tz_specs.specs.Day.{or_else}
use Rattle.tz_script.specs.Holds.{longest_open_line, holds_after}
use Rattle.tz_script.specs.Operation.{is_change}
use Rattle.tz_script.specs.declared.holds.OpenHold.{OpenHold}
use Rattle.tz_script.specs.declared.operation.Operation.{Operation}
use Rattle.tz_script.specs.declared.statement.Statement.{Statement}
use Rattle.tz_script.specs.declared.statement.Statement.TheVariants as statements

-- How many lanes there are, once a line has said so; how many rounds have begun; the operations, in the order of their
-- lines; how many of them are reloads or erasures; the holds that are open in this round; and the line of the first
-- hold that wasn't dropped in an earlier one.
pub record ScriptContents : Type 0 where
  pub lanes : Option ℕ
  pub rounds : ℕ
  pub operations : List Operation
  pub changes : ℕ
  pub holds : List OpenHold
  pub left : Option ℕ

-- before any line
abbrev pub no_script_contents : ScriptContents
no_script_contents = record { lanes = None; rounds = 0; operations = []; changes = 0; holds = []; left = None }

-- the line of the first hold that isn't dropped in its round, where the last round ends here
abbrev pub first_left : ScriptContents → Option ℕ
first_left contents = or_else contents.left (longest_open_line contents.holds)

-- the contents with what one more line says, by its number; a blank one says nothing
abbrev pub with_line_said : ℕ → Option Statement → ScriptContents → ScriptContents
with_line_said number None contents = contents
with_line_said number (Some (statements.Lanes lanes)) contents =
    record {
      lanes = Some lanes;
      rounds = contents.rounds;
      operations = contents.operations;
      changes = contents.changes;
      holds = contents.holds;
      left = contents.left;
    }
with_line_said number (Some statements.Round) contents =
    record {
      lanes = contents.lanes;
      rounds = contents.rounds + 1;
      operations = contents.operations;
      changes = contents.changes;
      holds = [];
      left = first_left contents;
    }
with_line_said number (Some (statements.Operation lane op)) contents =
    record {
      lanes = contents.lanes;
      rounds = contents.rounds;
      operations = contents.operations ++ record { line = number; round = contents.rounds; lane = lane; op = op } ∷ [];
      changes = contents.changes + (if is_change op then 1 else 0);
      holds = holds_after number lane op contents.holds;
      left = contents.left;
    }
