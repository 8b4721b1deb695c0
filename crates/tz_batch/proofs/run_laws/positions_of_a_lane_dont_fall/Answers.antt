use Rattle.tz_batch.specs.Laws.{batch_of}
use Rattle.tz_batch.proofs.LanePositions.{parted_twice, later_in_lane}
use Rattle.tz_batch.proofs.run_laws.positions_of_a_lane_dont_fall.Goals as goal

pub returns : goal.returns
returns c script sources slots outcome i j p q x y run low first second lanes rounds =
    let place = parted_twice script.operations outcome.replies i j p q x y low first.asked first.told second.asked second.told in
    later_in_lane (batch_of script sources slots outcome) run.positions place.front place.middle place.behind _ _ place.is lanes rounds
