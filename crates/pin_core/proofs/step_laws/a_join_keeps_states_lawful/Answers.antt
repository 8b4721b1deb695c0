use Rattle.pin_core.proofs.Joins.{joins}
use Rattle.pin_core.proofs.step_laws.a_join_keeps_states_lawful.Goals as goal

pub returns : goal.returns
returns c = joins
