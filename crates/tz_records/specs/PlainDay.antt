-- Days that are written as a number alone.
use Rattle.std.specs.Prelude.{ℕ, Option, Some, None}
use Rattle.tz_types.specs.declared.calendar.On.{On}
use Rattle.tz_types.specs.declared.calendar.On.TheVariants.{Day, Last, From, UpTo}

-- the day number, where that is all
abbrev pub number_alone : Option On → Option ℕ
number_alone None = None
number_alone (Some (Day day)) = Some day
number_alone (Some (Last weekday)) = None
number_alone (Some (From weekday day)) = None
number_alone (Some (UpTo weekday day)) = None
