use Rattle.pin_core.proofs.Runs.{runs_keep}
use Rattle.pin_core.proofs.run_laws.lawful_states_stay_lawful.Goals as goal

pub returns : goal.returns
returns c = runs_keep
