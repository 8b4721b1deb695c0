-- What a command prints where it isn't refused.
use Rattle.std.specs.Prelude.{ℕ, ◌⊎◌, Bool, true, false, List, ◌++◌, take, Result, Ok, Err, Vec, IsTrue, codes}
use Rattle.std.specs.declared.alloc.Global.{Global}
use Rattle.tz_cli.specs.Dumping.{compiled_texts}
use Rattle.tz_cli.specs.Outcome.{Exactly}
use Rattle.tz_cli.specs.Refusal.{IsRefusal}
use Rattle.tz_cli.specs.declared.output.Output.{Output}
use Rattle.tz_cli.specs.declared.output.Output.TheVariants as outputs
use Rattle.tz_cli.specs.declared.refusal.Refusal.{Refusal}
use Rattle.tz_words.specs.declared.status.Status.{Status}
use Rattle.tz_words.specs.declared.status.Status.TheVariants as statuses

-- all that is printed
abbrev pub output_text : Output → List ℕ
output_text (outputs.Line line) = line.items
output_text (outputs.Undecided line) = line.items
output_text (outputs.Zones dump) = compiled_texts dump.from dump.to dump.zones.items

-- the status with which it is printed
abbrev pub output_status : Output → Status
output_status (outputs.Line line) = statuses.Ok
output_status (outputs.Undecided line) = statuses.Local
output_status (outputs.Zones dump) = statuses.Ok

-- it is made piece by piece while it is printed
abbrev pub is_in_pieces : Output → Bool
is_in_pieces (outputs.Line line) = false
is_in_pieces (outputs.Undecided line) = false
is_in_pieces (outputs.Zones dump) = true

-- The text of the output is due at its status, or where memory ran out on the way, a first part of a text that comes in
-- pieces, and behind it the line that says so.
abbrev pub TellsOutput : Output → Status → List ℕ → Type 0
TellsOutput output status line =
    Exactly (output_status output) (output_text output) status line
    ⊎ (IsTrue (is_in_pieces output) × (count : ℕ)
    × Exactly statuses.Memory (take count (output_text output) ++ codes "memory\n") status line)

-- What a command comes to, an output or a refusal, is one of these answers.
abbrev pub GivesOutput : (Status → List ℕ → Type 0) → Result Output Refusal → Type 0
GivesOutput answers (Ok output) = answers (output_status output) (output_text output)
GivesOutput answers (Err refusal) = IsRefusal answers refusal

-- a line that was made whole, or its refusal
abbrev pub as_output : Result (Vec ℕ Global) Refusal → Result Output Refusal
as_output (Ok line) = Ok (outputs.Line line)
as_output (Err refusal) = Err refusal
