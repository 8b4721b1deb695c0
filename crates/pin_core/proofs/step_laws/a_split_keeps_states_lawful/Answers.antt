use Rattle.pin_core.proofs.Splits.{splits}
use Rattle.pin_core.proofs.step_laws.a_split_keeps_states_lawful.Goals as goal

pub returns : goal.returns
returns c = splits
