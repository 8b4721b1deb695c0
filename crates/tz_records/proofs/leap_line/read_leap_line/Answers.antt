use Rattle.tz_specs.specs.LeapLine.{leap_line_says}
use Rattle.tz_records.proofs.LeapLines.{refused_line, whole_line, means_ok, means_err}
use Rattle.tz_records.proofs.leap_line.read_leap_line.Goals as goal

pub returns-in-Ok-clause-ok : goal.returns-in-Ok-clause-ok
returns-in-Ok-clause-ok c =
    means_ok c.said.result (leap_line_says c.args.number c.args.earlier c.args.line.now) (whole_line c.args.number c.args.earlier c.args.line.now c.in-Ok.fields c.said.result c.in-Ok.ensures.good c.in-Ok.ensures.fields c.said.ensures)

pub returns-in-Ok-clause-err : goal.returns-in-Ok-clause-err
returns-in-Ok-clause-err c =
    means_err c.said.result (leap_line_says c.args.number c.args.earlier c.args.line.now) (whole_line c.args.number c.args.earlier c.args.line.now c.in-Ok.fields c.said.result c.in-Ok.ensures.good c.in-Ok.ensures.fields c.said.ensures)

pub returns-in-Err-clause-err : goal.returns-in-Err-clause-err
returns-in-Err-clause-err c = refused_line c.args.number c.args.earlier c.args.line.now c.in-Err.cause c.in-Err.ensures.cause
