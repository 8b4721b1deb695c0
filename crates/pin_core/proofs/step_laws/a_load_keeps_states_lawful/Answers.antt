use Rattle.pin_core.proofs.Loads.{loads}
use Rattle.pin_core.proofs.step_laws.a_load_keeps_states_lawful.Goals as goal

pub returns : goal.returns
returns c = loads
