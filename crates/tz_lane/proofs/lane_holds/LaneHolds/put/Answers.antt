use Rattle.tz_lane.proofs.HoldPlaces.{was_put}
use Rattle.tz_lane.proofs.lane_holds.LaneHolds.put.Goals as goal

pub returns : goal.returns
returns c = was_put c.self.inside.places c.args.self.now c.free_place-at.result c.args.hold c.replace.new.dest c.self.view_is c.free_place-at.ensures c.replace.ensures.after
