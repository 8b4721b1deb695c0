use Rattle.tz_words.specs.Command.{meant}
use Rattle.tz_cli.specs.Outcome.{IsDueFor}
use Rattle.tz_cli.specs.Output.{TellsOutput}
use Rattle.tz_cli.specs.Refusal.{TellsRefusal}
use Rattle.tz_cli.proofs.Due.{refusal_told}
use Rattle.tz_cli.proofs.Outputs.{prints_as, output_due}
use Rattle.tz_cli.proofs.top.run_command.Goals as goal

pub returns-in-Ok-clause-due : goal.returns-in-Ok-clause-due
returns-in-Ok-clause-due g c =
    let command = meant c.args.command in
    let before = g.F.Files.state c.args.files.now in
    let after = g.F.Files.state c.answer.new.files in
    let output = c.in-Ok.output in
    prints_as (TellsOutput output) (IsDueFor command before after) c.print_output.result (g.S.Sink.state c.args.sink.now) (g.S.Sink.state c.print_output.new.sink) (output_due command before after output c.in-Ok.ensures.pieces c.in-Ok.ensures.due) c.print_output.ensures

pub returns-in-Err-clause-due : goal.returns-in-Err-clause-due
returns-in-Err-clause-due g c =
    let command = meant c.args.command in
    let before = g.F.Files.state c.args.files.now in
    let after = g.F.Files.state c.answer.new.files in
    let refusal = c.in-Err.refusal in
    prints_as (TellsRefusal refusal) (IsDueFor command before after) c.print_refusal.result (g.S.Sink.state c.args.sink.now) (g.S.Sink.state c.print_refusal.new.sink) (refusal_told command before after refusal c.in-Err.ensures.due) c.print_refusal.ensures
