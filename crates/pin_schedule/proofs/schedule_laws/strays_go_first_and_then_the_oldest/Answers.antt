use Rattle.pin_schedule.proofs.PinLemmas.{taken_slot, taken_oldest}
use Rattle.pin_schedule.proofs.schedule_laws.strays_go_first_and_then_the_oldest.Goals as goal

pub returns : goal.returns
returns c = record { slot = taken_slot; oldest = taken_oldest }
