use Rattle.std.proofs.Common.{◌≡◌, replicate}
use Rattle.pin_core.specs.Step.{reader_at_first}
use Rattle.pin_schedule.specs.Answer.{reader_of}
use Rattle.pin_schedule.proofs.course.readers_at_first.Given as goal

abbrev pub invariant-loop : goal.invariant-loop
invariant-loop l = l.all.items ≡ replicate l.counter (reader_of (reader_at_first l.room 0))
