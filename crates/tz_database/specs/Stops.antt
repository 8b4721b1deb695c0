-- Where names lead: to zones, and to links that lead on.
use Rattle.std.specs.Prelude.{ℕ, zero, suc, if◌then◌else◌, List, [], ◌∷◌, map, Option, Some, None, unwrap_or, slice_get}
use Rattle.tz_types.specs.declared.zone.Zone.{Zone}
use Rattle.tz_types.specs.declared.link.Link.{Link}
use Rattle.tz_specs.specs.Value.{is_exactly}
use Rattle.tz_database.specs.declared.stop.Stop.{Stop}
use Rattle.tz_database.specs.declared.stop.Stop.TheVariants as stops

abbrev pub zone_names : List Zone → List (List ℕ)
zone_names zones = map (λ zone. zone.name) zones

abbrev pub link_names : List Link → List (List ℕ)
link_names links = map (λ link. link.name) links

-- What stands at the first place of a name among names, whose places count from one on; or else what was known before.
abbrev pub first_stop : (ℕ → Stop) → ℕ → List ℕ → List (List ℕ) → Option Stop → Option Stop
first_stop stop_at place name [] known = known
first_stop stop_at place name (other ∷ names) known =
    if is_exactly other name then Some (stop_at place) else first_stop stop_at (suc place) name names known

-- the first zone of the name, or else the first link of it
abbrev pub known_stop : List Zone → List Link → List ℕ → Option Stop
known_stop zones links name =
    first_stop stops.Zone 0 name (zone_names zones) (first_stop stops.Link 0 name (link_names links) None)

-- where a name leads, by what is known of names
abbrev pub stop_of : (List ℕ → Option Stop) → List ℕ → Stop
stop_of known name = unwrap_or (known name) stops.Nowhere

-- where the target of each link leads
abbrev pub targets_of : (List ℕ → Option Stop) → List Link → List Stop
targets_of known links = map (λ link. stop_of known link.target) links

-- one link further, by where each link leads; a zone is the end of the way
abbrev pub next_stop : List Stop → Stop → Stop
next_stop targets (stops.Zone place) = stops.Zone place
next_stop targets (stops.Link place) = unwrap_or (slice_get targets place) stops.Nowhere
next_stop targets stops.Nowhere = stops.Nowhere

-- so many links further
unfoldable pub stop_after : List Stop → ℕ → Stop → Stop
stop_after targets zero stop = stop
stop_after targets (suc steps) stop = stop_after targets steps (next_stop targets stop)

-- the place of the zone where a way ends
abbrev pub zone_place : Stop → Option ℕ
zone_place (stops.Zone place) = Some place
zone_place (stops.Link place) = None
zone_place stops.Nowhere = None
