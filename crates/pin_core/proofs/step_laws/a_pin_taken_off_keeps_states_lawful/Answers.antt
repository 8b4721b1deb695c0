use Rattle.pin_core.proofs.Pins.{unpins}
use Rattle.pin_core.proofs.step_laws.a_pin_taken_off_keeps_states_lawful.Goals as goal

pub returns : goal.returns
returns c = unpins
