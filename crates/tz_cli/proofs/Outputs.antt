-- What a command prints is due at its status, and how it ends.
use Rattle.std.proofs.Common.{◌≡◌, ℕ, inl, inr, List, ◌++◌, take, codes, IsTrue, Result, Ok, Err, Vec, refl}
use Rattle.std.specs.declared.alloc.Global.{Global}
use Rattle.tz_io.specs.Files.{FilesState}
use Rattle.tz_io.specs.Sink.{SinkState, with_bytes, SinkFailed}
use Rattle.tz_io.proofs.SinkStates.{stops_behind, stopped_failed}
use Rattle.tz_types.specs.declared.source.Source.{Source}
use Rattle.tz_words.specs.NamedText.{NamedText, IsSourceOf}
use Rattle.tz_words.specs.Command.{Command}
use Rattle.tz_cli.specs.Answer.{OfSource, comes_in_pieces}
use Rattle.tz_cli.specs.Outcome.{IsDueFor, Prints}
use Rattle.tz_cli.specs.Refusal.{Gives}
use Rattle.tz_cli.specs.Output.{output_text, output_status, is_in_pieces, TellsOutput, GivesOutput, as_output}
use Rattle.tz_cli.specs.declared.output.Output.{Output}
use Rattle.tz_cli.specs.declared.output.Output.TheVariants as outputs
use Rattle.tz_cli.specs.declared.refusal.Refusal.{Refusal}
use Rattle.tz_cli.specs.declared.refusal.Refusal.TheVariants as refusals
use Rattle.tz_cli.proofs.Waiting.{written_then}
use Rattle.tz_words.specs.declared.status.Status.{Status}
use Rattle.tz_words.specs.declared.status.Status.TheVariants as statuses

pub gives_line : (answers : Status → List ℕ → Type 0) (outcome : Result (Vec ℕ Global) Refusal) → Gives answers outcome → GivesOutput answers (as_output outcome)
gives_line answers (Ok line) given = given
gives_line answers (Err refusal) given = given

-- where other lines are due that have these among them, they were printed too
pub prints_as : (due other : Status → List ℕ → Type 0) (status : Status) (before after : SinkState) → ((status : Status) (line : List ℕ) → due status line → other status line) → Prints due status before after → Prints other status before after
prints_as due other statuses.Write before after those printed =
    (printed.0, printed.1, those printed.0 printed.1 printed.2, printed.3)
prints_as due other status before after those printed = (printed.0, those status printed.0 printed.1, printed.2)

-- what was printed behind a text that was written whole
pub prints_behind : (due other : Status → List ℕ → Type 0) (status : Status) (before middle after : SinkState) (done : List ℕ) → middle ≡ with_bytes before done → ((status : Status) (line : List ℕ) → due status line → other status (done ++ line)) → Prints due status middle after → Prints other status before after
prints_behind due other statuses.Write before middle after done is those printed =
    let error = printed.3.0 in
    (printed.0, done ++ printed.1, those printed.0 printed.1 printed.2, (error, stops_behind error before middle after done printed.1 is printed.3.1))
prints_behind due other status before middle after done is those printed =
    (done ++ printed.0, those status printed.0 printed.1, written_then before middle after done printed.0 is printed.2)

-- what was printed whole or in part failed at `Write` alone
pub write_failed : (due : Status → List ℕ → Type 0) (before after : SinkState) → Prints due statuses.Write before after → SinkFailed before after
write_failed due before after printed = stopped_failed before after printed.1 printed.3

-- what is due at the status with which something was printed
pub due_at : (due : Status → List ℕ → Type 0) (status : Status) (before after : SinkState) → (SinkFailed before after → ⊥) → Prints due status before after → (line : List ℕ) × due status line
due_at due statuses.Write before after fine printed = absurd (fine (write_failed due before after printed))
due_at due status before after fine printed = (printed.0, printed.1)

-- the line that says that memory ran out is due behind a first part of what comes in pieces
late_due : (command : Command) (before after : FilesState) (output : Output) (count : ℕ) → is_in_pieces output ≡ comes_in_pieces command → IsTrue (is_in_pieces output) → IsDueFor command before after (output_status output) (output_text output) → IsDueFor command before after statuses.Memory (take count (output_text output) ++ codes "memory\n")
late_due command before after (outputs.Line line) count same pieces due = cc
late_due command before after (outputs.Undecided line) count same pieces due = cc
late_due command before after (outputs.Zones dump) count same pieces due =
    let comes : IsTrue (comes_in_pieces command) = rw (← same) pieces in
    inr (comes, due.0, due.1, output_text (outputs.Zones dump), due.2, count, refl)

-- what an output tells is due
pub output_due : (command : Command) (before after : FilesState) (output : Output) → is_in_pieces output ≡ comes_in_pieces command → IsDueFor command before after (output_status output) (output_text output) → (status : Status) (line : List ℕ) → TellsOutput output status line → IsDueFor command before after status line
output_due command before after output same due status line told =
    elim told [
      | inl whole ↦ rw (whole.0, whole.1) due
      | inr late ↦ rw (late.2.0, late.2.1) (late_due command before after output late.1 same late.0 due)
    ]

-- what is an answer over the source of contents is one over the contents
pub over_source : (text : NamedText) (contents : List (List ℕ)) (source : Source) (answers : Source → Status → List ℕ → Type 0) (result : Result Output Refusal) → IsSourceOf text contents source → GivesOutput (answers source) result → GivesOutput (λ status line. OfSource text contents (λ source. answers source status line)) result
over_source text contents source answers (Ok output) is given = (source, is, given)
over_source text contents source answers (Err refusals.Memory) is given = tt
over_source text contents source answers (Err refusal) is given = (source, is, given)
