use Rattle.tz_batch.proofs.HeldSlots.{held_was_front}
use Rattle.tz_batch.proofs.run_laws.held_slots_were_the_fronts.Goals as goal

pub returns : goal.returns
returns c script sources slots outcome run before later here is slot held = held_was_front script sources slots outcome run before later here slot is held
