use Rattle.std.proofs.Common.{◌≡◌, ℕ, List, map, drop}
use Rattle.tz_database.specs.NameMap.{known_of}
use Rattle.std.specs.List.{filter_map}
use Rattle.tz_specs.specs.Whole.{zone_name}
use Rattle.tz_specs.specs.Written.{written_zone}
use Rattle.tz_database.specs.FirstLine.{first_line}
use Rattle.tz_database.proofs.repeated_name.note_zones.Given as goal

-- the least line of each name, when the zones that are left give theirs too
abbrev pub invariant-loop-zone : goal.invariant-loop-zone
invariant-loop-zone l =
    (other : List ℕ) → first_line other (known_of l.lines other) (filter_map zone_name (map (written_zone l.parts.names) (drop l.zone-index l.parts.zones))) ≡ first_line other (known_of l.fn.lines other) (filter_map zone_name (map (written_zone l.parts.names) l.parts.zones))
