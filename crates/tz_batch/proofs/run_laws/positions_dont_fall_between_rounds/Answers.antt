use Rattle.std.proofs.Common.{◌+◌, arith}
use Rattle.tz_batch.specs.Batch.{answered}
use Rattle.tz_batch.specs.Laws.{batch_of}
use Rattle.tz_batch.proofs.LanePositions.{parted, from_start, starts_rise}
use Rattle.tz_batch.proofs.run_laws.positions_dont_fall_between_rounds.Goals as goal

pub returns : goal.returns
returns c script sources slots outcome i j p q x y run first second earlier =
    let batch = batch_of script sources slots outcome in
    let one = parted script.operations outcome.replies i p x first.asked first.told in
    let two = parted script.operations outcome.replies j q y second.asked second.told in
    let high = (run.positions one.front one.behind _ one.is).high in
    let low = from_start batch run.positions two.front two.behind _ two.is in
    omega (arith, high, low, starts_rise (answered batch) (p.round + 1) q.round (omega (arith, earlier)))
