use Rattle.std.proofs.Common.{sym, ◌∙◌}
use Rattle.tz_lane.proofs.HoldPlaces.{read_there, was_taken}
use Rattle.tz_lane.proofs.lane_holds.LaneHolds.take.Goals as goal

pub returns-clause-others : goal.returns-clause-others
returns-clause-others c =
    let read = read_there c.args.name.now c.self.inside.places c.place_named-at.result c.index-self-at.result c.in-Some.hold c.place_named-at.ensures (sym c.take.ensures.value ∙ c.in-Some.is) in
    was_taken c.self.inside.places c.args.self.now c.place_named-at.result c.in-Some.hold c.take.new.self c.self.view_is read.0 c.take.ensures.after

pub returns-clause-name : goal.returns-clause-name
returns-clause-name c =
    let read = read_there c.args.name.now c.self.inside.places c.place_named-at.result c.index-self-at.result c.in-Some.hold c.place_named-at.ensures (sym c.take.ensures.value ∙ c.in-Some.is) in
    read.1
