use Rattle.std.proofs.Common.{sym, arith}
use Rattle.tz_script.specs.Gathered.{script_contents_gathered}
use Rattle.tz_script.proofs.Soundness.{not_late}
use Rattle.tz_script.proofs.line.operation.Goals as goal

pub returns-in-None-clause-may : goal.returns-in-None-clause-may
returns-in-None-clause-may c = (
  omega (arith, c.in-Ok.ensures.begun),
  rw c.requires c.in-Some.ensures.bound,
  not_late c.args.sources (script_contents_gathered c.args.gathered.now) c.in-Some.lane c.in-Ok.op (sym c.in-None.ensures),
  c.in-Ok.ensures.sized,
)
