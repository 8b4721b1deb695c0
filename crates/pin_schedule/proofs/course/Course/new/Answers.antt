use Rattle.std.proofs.Common.{rules}
use Rattle.pin_schedule.proofs.OpeningLemmas.{opening_told}
use Rattle.pin_schedule.proofs.course.Course.new.Goals as goal

pub returns : goal.returns
returns c = rw (← opening_told c.args.room c.args.slots c.args.readers) (search rules)
