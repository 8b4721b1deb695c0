use Rattle.std.proofs.Common.{◌<◌, ◌≤◌, length, rules}
use Rattle.tz_version.proofs.ReadyZones.{next_ready, all_ready}
use Rattle.tz_version.proofs.ready_zones.compiled_zones.Goals as goal

pub loop-place-preserved : goal.loop-place-preserved
loop-place-preserved c =
    let within : c.loop-place.place < length c.args.db.now.zones = search rules in
    next_ready c.args.db.now c.loop-place.place c.loop-place.compiled c.push_compiled.new.compiled within c.loop-place.invariant c.in_ok-push_compiled.ensures

pub returns : goal.returns
returns c =
    let all : length c.args.db.now.zones ≤ c.loop-place.place = search rules in
    all_ready c.args.db.now c.loop-place.place c.loop-place.compiled all c.loop-place.invariant
