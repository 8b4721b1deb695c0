use Rattle.pin_core.proofs.Turns.{gives_back}
use Rattle.pin_core.proofs.step_laws.a_turn_given_back_keeps_states_lawful.Goals as goal

pub returns : goal.returns
returns c = gives_back
