-- The places of the zones that links reach.
use Rattle.std.specs.Prelude.{ℕ, List, Option, Some, None, option_map, slice_get}
use Rattle.tz_types.specs.declared.zone.Zone.{Zone}

-- the name of the zone at a place
abbrev pub name_at : List Zone → Option ℕ → Option (List ℕ)
name_at zones None = None
name_at zones (Some place) = option_map (λ (zone : Zone). zone.name) (slice_get zones place)
