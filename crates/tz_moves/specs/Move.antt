-- The moves of a stretch of time, each with what the clock then shows.
use Rattle.std.specs.Prelude.{List, map, filter, ℤ}
use Rattle.tz_types.specs.declared.range.SysInfo.{SysInfo}
use Rattle.tz_expand.specs.declared.compiled_zone.CompiledZone.{CompiledZone}
use Rattle.tz_expand.specs.Zone.{expansion_of}
use Rattle.tz_moves.specs.declared.moves.Move.{Move}
use Rattle.tz_moves.specs.Moves.{moved_ranges, begins_between}

-- the move with which a range begins
abbrev pub move_to : SysInfo → Move
move_to range =
    record {
      at = range.begin;
      offset = range.offset;
      save = range.save;
      «abbrev» = range.abbrev;
    }

-- the zone's moves from an instant up to but excluding another, in order
abbrev pub moves_between : CompiledZone → ℤ → ℤ → List Move
moves_between zone from to =
    map move_to (filter (begins_between from to) (moved_ranges (expansion_of zone)))
