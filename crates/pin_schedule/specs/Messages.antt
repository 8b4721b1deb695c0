-- What `{}` prints of an error.
use Rattle.std.specs.Prelude.{ℕ, List, ◌++◌, codes}
use Rattle.std.specs.Fmt.{decimal}
use Rattle.pin_schedule.specs.declared.schedule_error.ScheduleError.{ScheduleError}
use Rattle.pin_schedule.specs.declared.schedule_error.ScheduleError.TheVariants.{NoMemory, NotAllowed}

abbrev pub schedule_error_text : ScheduleError → List ℕ
schedule_error_text NoMemory = codes "memory ran out"
schedule_error_text (NotAllowed index) = codes "event " ++ decimal index ++ codes " isn't allowed"
