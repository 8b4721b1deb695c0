use Rattle.std.proofs.Common.{◌≡◌, IfOk, map, length, rules}
use Rattle.tz_database.specs.NameMap.{known_of}
use Rattle.std.proofs.lemmas.Result.{IfOk-weaker}
use Rattle.tz_database.specs.Stops.{targets_of, stop_after, zone_place}
use Rattle.tz_database.proofs.ZonesReached.{zones_are}
use Rattle.tz_database.proofs.reach.zones_reached.Goals as goal

pub returns : goal.returns
returns c =
    let known = known_of c.in_ok-known.known in
    let targets : c.in_ok-targets.targets.items ≡ targets_of known c.args.links.now = search rules in
    let ends : c.in_ok-ends.ends.items ≡ map (stop_after c.in_ok-targets.targets.items (length c.in_ok-targets.targets.items)) c.in_ok-targets.targets.items = search rules in
    let places : IfOk c.zone_places.result (λ places. places.items ≡ map zone_place c.in_ok-ends.ends.items) = search rules in
    IfOk-weaker c.zone_places.result _ _ (λ places is names. zones_are names c.args.zones.now c.args.links.now known c.in_ok-known.ensures c.in_ok-targets.targets.items c.in_ok-ends.ends.items places.items targets ends is) places
