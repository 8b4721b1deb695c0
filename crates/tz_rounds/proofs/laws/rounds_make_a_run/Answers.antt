-- The law is a theorem of its own.
use Rattle.tz_rounds.proofs.Assembly.{rounds_make_a_run}
use Rattle.tz_rounds.proofs.laws.rounds_make_a_run.Goals as goal

pub returns : goal.returns
returns c = rounds_make_a_run
