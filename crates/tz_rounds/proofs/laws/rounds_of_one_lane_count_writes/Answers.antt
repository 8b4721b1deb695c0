-- The law is a theorem of its own.
use Rattle.tz_rounds.proofs.OneLane.{positions_count_writes}
use Rattle.tz_rounds.proofs.laws.rounds_of_one_lane_count_writes.Goals as goal

pub returns : goal.returns
returns c = positions_count_writes
