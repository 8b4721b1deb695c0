use Rattle.tz_batch.proofs.FirstRun.{first_run}
use Rattle.tz_batch.proofs.laws.a_look_has_a_run.Goals as goal

pub returns : goal.returns
returns c = first_run
