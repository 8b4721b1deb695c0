use Rattle.pin_schedule.proofs.RunLemmas.{event_moves, events_reach, events_keep, opening_reaches}
use Rattle.pin_schedule.proofs.schedule_laws.a_schedule_is_a_run.Goals as goal

pub returns : goal.returns
returns c = record { step = event_moves; run = events_reach; opening = opening_reaches; lawful = events_keep }
