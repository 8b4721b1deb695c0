use Rattle.tz_records.proofs.ZoneTextLines.{refuses, says_alone, refuses_alone}
use Rattle.tz_records.proofs.line.read_line.Goals as goal

pub returns-in-Ok-clause-ok : goal.returns-in-Ok-clause-ok
returns-in-Ok-clause-ok c =
    says_alone c.args.waiting c.args.number c.args.line.now c.in-Ok.fields c.said.result c.in-Ok.ensures.good c.in-Ok.ensures.fields c.said.ensures

pub returns-in-Ok-clause-err : goal.returns-in-Ok-clause-err
returns-in-Ok-clause-err c =
    refuses_alone c.args.waiting c.args.number c.args.line.now c.in-Ok.fields c.said.result c.in-Ok.ensures.good c.in-Ok.ensures.fields c.said.ensures

pub returns-in-Err-clause-err : goal.returns-in-Err-clause-err
returns-in-Err-clause-err c = refuses c.args.waiting c.args.line.now c.in-Err.cause c.in-Err.ensures.cause
