use Rattle.std.proofs.Common.{List, Contains, subst}
use Rattle.tz_lane.specs.declared.lane_hold.LaneHold.{LaneHold}
use Rattle.tz_lane.proofs.HoldPlaces.{read_there, is_open}
use Rattle.tz_lane.proofs.lane_holds.LaneHolds.named.Goals as goal

pub returns-clause-open : goal.returns-clause-open
returns-clause-open c =
    let read = read_there c.args.name.now c.self.inside.places c.place_named-at.result c.index-self-at.result c.in-Some.hold c.place_named-at.ensures c.in-Some.is in
    subst (λ (holds : List LaneHold). Contains holds c.in-Some.hold) c.self.view_is (is_open c.self.inside.places c.place_named-at.result c.in-Some.hold read.0)

pub returns-clause-name : goal.returns-clause-name
returns-clause-name c =
    let read = read_there c.args.name.now c.self.inside.places c.place_named-at.result c.index-self-at.result c.in-Some.hold c.place_named-at.ensures c.in-Some.is in
    read.1
