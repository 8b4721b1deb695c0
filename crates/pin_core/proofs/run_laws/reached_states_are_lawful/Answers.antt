use Rattle.pin_core.proofs.Runs.{reached}
use Rattle.pin_core.proofs.run_laws.reached_states_are_lawful.Goals as goal

pub returns : goal.returns
returns c = reached
