use Rattle.tz_batch.proofs.TwoLanes.{two_lanes_run, one_lane_does_not}
use Rattle.tz_batch.proofs.run_laws.lanes_run_beside_each_other.Goals as goal

pub returns-clause-two_lanes : goal.returns-clause-two_lanes
returns-clause-two_lanes c = two_lanes_run

pub returns-clause-one_lane : goal.returns-clause-one_lane
returns-clause-one_lane c = one_lane_does_not
