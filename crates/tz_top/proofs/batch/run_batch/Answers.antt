use Rattle.std.proofs.Common.{ℕ, List}
use Rattle.tz_words.specs.Command.{batch_meant}
use Rattle.tz_words.specs.declared.status.Status.{Status}
use Rattle.tz_words.specs.declared.status.Status.TheVariants as statuses
use Rattle.tz_cli.specs.Outcome.{Exactly}
use Rattle.tz_cli.specs.Refusal.{TellsRefusal}
use Rattle.tz_cli.proofs.Outputs.{prints_as}
use Rattle.tz_top.specs.Due.{IsBatchDue}
use Rattle.tz_top.proofs.Due.{refusal_told}
use Rattle.tz_top.proofs.batch.run_batch.Goals as goal

pub returns-in-Ok-clause-due : goal.returns-in-Ok-clause-due
returns-in-Ok-clause-due g c =
    let batch = batch_meant c.args.line in
    let before = g.F.Files.state c.args.files.now in
    let after = g.F.Files.state c.answer.new.files in
    let text = c.in-Ok.text.items in
    prints_as (Exactly statuses.Ok text) (IsBatchDue batch before after) c.print.result (g.S.Sink.state c.args.sink.now) (g.S.Sink.state c.print.new.sink) (λ (status : Status) (line : List ℕ) exactly. rw (exactly.0, exactly.1) c.in-Ok.ensures.due) (rw c.as_slice.ensures.value at c.print.ensures)

pub returns-in-Err-clause-due : goal.returns-in-Err-clause-due
returns-in-Err-clause-due g c =
    let batch = batch_meant c.args.line in
    let before = g.F.Files.state c.args.files.now in
    let after = g.F.Files.state c.answer.new.files in
    let refusal = c.in-Err.refusal in
    prints_as (TellsRefusal refusal) (IsBatchDue batch before after) c.print_refusal.result (g.S.Sink.state c.args.sink.now) (g.S.Sink.state c.print_refusal.new.sink) (refusal_told batch before after refusal c.in-Err.ensures.due) c.print_refusal.ensures
