use Rattle.tz_lane.proofs.HoldPlaces.{any_taken}
use Rattle.tz_lane.proofs.lane_holds.LaneHolds.take_any.Goals as goal

pub returns : goal.returns
returns c = any_taken c.self.inside.places c.args.self.now c.in_ok-at.at c.take.result c.take.new.self c.index-self-at.result c.self.view_is (c.in_ok-at.ensures {u = tt}) c.take.ensures.value c.take.ensures.after
