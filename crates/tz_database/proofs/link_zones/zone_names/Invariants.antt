use Rattle.std.proofs.Common.{◌≡◌, map, take}
use Rattle.tz_types.specs.declared.zone.Zone.{Zone}
use Rattle.tz_database.proofs.link_zones.zone_names.Given as goal

abbrev pub invariant-loop-zone : goal.invariant-loop-zone
invariant-loop-zone l =
    l.names.items ≡ map (λ (zone : Zone). zone.name) (take l.zone-index l.zones)
