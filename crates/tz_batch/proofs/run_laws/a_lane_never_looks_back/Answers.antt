use Rattle.tz_batch.proofs.TwoLanes.{no_lane_looks_back}
use Rattle.tz_batch.proofs.run_laws.a_lane_never_looks_back.Goals as goal

pub returns : goal.returns
returns c = no_lane_looks_back
