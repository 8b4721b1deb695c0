use Rattle.pin_schedule.proofs.RunLemmas.{strays_stand_apart}
use Rattle.pin_schedule.proofs.schedule_laws.strays_stand_apart_in_schedules.Goals as goal

pub returns : goal.returns
returns c = strays_stand_apart
