use Rattle.pin_core.proofs.Pins.{pins}
use Rattle.pin_core.proofs.step_laws.a_pin_keeps_states_lawful.Goals as goal

pub returns : goal.returns
returns c = pins
