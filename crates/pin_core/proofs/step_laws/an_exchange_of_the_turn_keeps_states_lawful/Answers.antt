use Rattle.pin_core.proofs.Turns.{exchanges}
use Rattle.pin_core.proofs.step_laws.an_exchange_of_the_turn_keeps_states_lawful.Goals as goal

pub returns : goal.returns
returns c = exchanges
