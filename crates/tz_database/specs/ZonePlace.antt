-- Where the zone of a name stands.
use Rattle.std.specs.Prelude.{ℕ, List, Option, position, slice_get}
use Rattle.tz_types.specs.declared.zone.Zone.{Zone}
use Rattle.tz_specs.specs.Choice.{◌>>=◌}
use Rattle.tz_specs.specs.Value.{is_exactly}

-- the place of the zone with that name among the zones
abbrev pub zone_place_of : List Zone → List ℕ → Option ℕ
zone_place_of zones name = position (λ (zone : Zone). is_exactly zone.name name) zones

-- the place, among the zones, of the one whose name stands at a place among the names
abbrev pub place_reached : List (List ℕ) → List Zone → Option ℕ → Option ℕ
place_reached names zones reached =
    reached >>= λ place. slice_get names place >>= λ name. zone_place_of zones name
