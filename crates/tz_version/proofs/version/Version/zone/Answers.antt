use Rattle.std.proofs.Common.{◌≡◌, ◌<◌, get_or, Some, None, rules, arith, refl}
use Rattle.tz_types.specs.declared.limit.TheConstants.{MOST_ZONES}
use Rattle.tz_version.specs.Release.{IsZoneCalled}
use Rattle.tz_version.specs.Search.{place_called}
use Rattle.tz_version.proofs.ZonesCalled.{zones_ascend, links_ascend, place_there, place_small, place_with_cells, zone_called, lacks_zone, called_not_lacking}
use Rattle.tz_version.proofs.version.Version.zone.Goals as goal

pub place_called-requires-clause-zones_ascend : goal.place_called-requires-clause-zones_ascend
place_called-requires-clause-zones_ascend c = rw c.as_slice.ensures (zones_ascend _ _ c.self.invariant c.args.name.now)

pub place_called-requires-clause-links_ascend : goal.place_called-requires-clause-links_ascend
place_called-requires-clause-links_ascend c = rw c.as_slice-2.ensures (links_ascend _ _ c.self.invariant c.args.name.now)

pub offset_bounds-as_slice-place : goal.offset_bounds-as_slice-place
offset_bounds-as_slice-place c =
    let found : Some c.in-Some.place ≡ place_called c.self.inside.zones c.self.inside.links c.args.name.now = search rules in
    let small : c.in-Some.place < MOST_ZONES = place_small _ _ c.self.invariant c.args.name.now c.in-Some.place found in
    omega arith

pub bounds-as_slice-place : goal.bounds-as_slice-place
bounds-as_slice-place c =
    let found : Some c.in-Some.place ≡ place_called c.self.inside.zones c.self.inside.links c.args.name.now = search rules in
    rw c.as_slice-in-Some.ensures (place_there _ _ c.self.invariant c.args.name.now c.in-Some.place found)

pub offset_bounds-as_slice-place-in-Some : goal.offset_bounds-as_slice-place-in-Some
offset_bounds-as_slice-place-in-Some c =
    let found : Some c.in-Some.place ≡ place_called c.self.inside.zones c.self.inside.links c.args.name.now = search rules in
    let small : c.in-Some.place < MOST_ZONES = place_small _ _ c.self.invariant c.args.name.now c.in-Some.place found in
    omega arith

pub bounds-as_slice-place-in-Some : goal.bounds-as_slice-place-in-Some
bounds-as_slice-place-in-Some c =
    let found : Some c.in-Some.place ≡ place_called c.self.inside.zones c.self.inside.links c.args.name.now = search rules in
    rw c.as_slice-in-Some-2.ensures (place_with_cells _ _ c.self.invariant c.args.name.now c.in-Some.place found)

found_called : (c : goal.After-new) → IsZoneCalled c.args.self.now c.args.name.now c.new.result
found_called c =
    let found : Some c.in-Some.place ≡ place_called c.self.inside.zones c.self.inside.links c.args.name.now = search rules in
    let there : c.new.result ≡ get_or c.self.inside.zones c.in-Some.place c.new.result = search rules in
    rw (← c.self.view_is) (zone_called _ _ c.self.invariant c.args.name.now c.in-Some.place c.new.result found there)

pub returns-in-Some-clause-found : goal.returns-in-Some-clause-found
returns-in-Some-clause-found c = found_called c

pub returns-in-Some-clause-missing : goal.returns-in-Some-clause-missing
returns-in-Some-clause-missing c =
    ((λ never. cc), (λ lacks. absurd (called_not_lacking c.args.self.now c.args.name.now c.new.result (found_called c) lacks)))

pub returns-in-None-clause-missing : goal.returns-in-None-clause-missing
returns-in-None-clause-missing c =
    let missing : None ≡ place_called c.self.inside.zones c.self.inside.links c.args.name.now = search rules in
    ((λ same. rw (← c.self.view_is) (lacks_zone _ _ c.self.invariant c.args.name.now missing)), (λ lacks. refl))
