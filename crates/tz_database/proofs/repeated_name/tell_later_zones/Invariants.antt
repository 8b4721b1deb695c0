use Rattle.std.proofs.Common.{◌≡◌, map, drop}
use Rattle.tz_database.specs.NameMap.{known_of}
use Rattle.std.specs.List.{filter_map}
use Rattle.tz_specs.specs.Whole.{zone_name}
use Rattle.tz_specs.specs.Written.{written_zone}
use Rattle.tz_database.specs.LeastFault.{told_with}
use Rattle.tz_database.specs.FirstLine.{later_name}
use Rattle.tz_database.proofs.repeated_name.tell_later_zones.Given as goal

-- the least, when the names of the zones that are left are told too
abbrev pub invariant-loop-zone : goal.invariant-loop-zone
invariant-loop-zone l =
    told_with l.told.least (filter_map (later_name (known_of l.lines)) (filter_map zone_name (map (written_zone l.parts.names) (drop l.zone-index l.parts.zones)))) ≡ told_with l.fn.told.least (filter_map (later_name (known_of l.lines)) (filter_map zone_name (map (written_zone l.parts.names) l.parts.zones)))
