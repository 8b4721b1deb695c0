use Rattle.std.proofs.Common.{FitsSigned}
use Rattle.std.specs.Int.{w64}
use Rattle.std.proofs.lemmas.Int.{to_z-of_z}
use Rattle.tz_lane.proofs.finding.find_by_clock.Goals as goal

pub returns : goal.returns
returns c =
    let fits : FitsSigned w64 c.args.x = c.ranges.x in
    let finds = simp to_z-of_z at c.find_count.ensures in
    (c.leaps.result.now, rw c.leaps.ensures.leaps c.leaps.ensures.is.leaps, finds)
