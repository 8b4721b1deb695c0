use Rattle.std.proofs.Common.{refl, FitsSigned}
use Rattle.std.specs.Int.{w64}
use Rattle.std.proofs.lemmas.Int.{to_z-of_z}
use Rattle.tz_batch.specs.Finding.{FindsInfo}
use Rattle.tz_lane.proofs.FoundByName.{found_in_zone}
use Rattle.tz_lane.proofs.finding.find_info.Goals as goal

pub returns-in-Ok : goal.returns-in-Ok
returns-in-Ok c =
    let fits : FitsSigned w64 c.args.t = c.ranges.t in
    let finds = simp to_z-of_z at c.find_info_by_windows.ensures in
    found_in_zone c.args.version.now c.args.name.now (λ compiled. FindsInfo compiled c.args.t) c.in-Ok.zone c.find_info_by_windows.result (λ never. never) c.zone.ensures.is c.in-Ok.ensures.found finds

pub returns-in-Err : goal.returns-in-Err
returns-in-Err c = (c.args.version.now, c.zone.ensures.is, c.in-Err.ensures.missing.0 refl)
