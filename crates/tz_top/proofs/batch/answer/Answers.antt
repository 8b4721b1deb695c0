use Rattle.tz_words.specs.Command.{batch_meant}
use Rattle.tz_top.proofs.Due.{gives_due}
use Rattle.tz_top.proofs.batch.answer.Goals as goal

pub returns-in-Ok-clause-due : goal.returns-in-Ok-clause-due
returns-in-Ok-clause-due g c =
    gives_due (batch_meant c.args.line) (g.F.Files.state c.args.files.now) (g.F.Files.state c.read_texts.new.files) c.in-Ok.texts.script c.in-Ok.texts.sources c.batch_text.result c.in-Ok.ensures.texts c.batch_text.ensures
