-- What compiled lines stand for: periods of their zone.
use Rattle.std.specs.Prelude.{Bool, List, map}
use Rattle.tz_specs.specs.Expansion.{Period, first_instant, end_of_time}
use Rattle.tz_specs.specs.Sound.{leads}
use Rattle.tz_expand.specs.declared.compiled_line.CompiledLine.{CompiledLine}
use Rattle.tz_expand.specs.Followed.{followed_by}

-- the period that a line stands for
abbrev pub period_of : CompiledLine → Period
period_of line =
    record {
      start = line.start;
      finish = line.end;
      stdoff = line.stdoff;
      following = followed_by line.rules;
      format = line.format;
    }

abbrev pub periods : List CompiledLine → List Period
periods lines = map period_of lines

-- the lines lead from the beginning of time to its end
abbrev pub cover_time : List CompiledLine → Bool
cover_time lines = leads first_instant end_of_time (periods lines)
