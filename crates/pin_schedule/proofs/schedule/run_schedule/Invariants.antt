use Rattle.std.proofs.Common.{take}
use Rattle.pin_core.specs.Step.{opening_with_readers}
use Rattle.pin_schedule.specs.Schedule.{after_events, AreAllowed}
use Rattle.pin_schedule.specs.Progress.{Stands}
use Rattle.pin_schedule.proofs.schedule.run_schedule.Given as goal

abbrev pub invariant-loop-index : goal.invariant-loop-index
invariant-loop-index l = record {
  allowed : AreAllowed (opening_with_readers l.slots l.readers l.room) (take l.index l.events);
  stands : Stands l.index l.room (after_events (opening_with_readers l.slots l.readers l.room) (take l.index l.events)) l.course;
}
