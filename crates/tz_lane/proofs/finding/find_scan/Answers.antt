use Rattle.std.proofs.Common.{refl, sym, subst, FitsSigned}
use Rattle.std.specs.Int.{w64}
use Rattle.std.proofs.lemmas.Int.{to_z-of_z}
use Rattle.tz_lookup.specs.declared.found.Found.{Found}
use Rattle.tz_batch.specs.Finding.{FindsScan}
use Rattle.tz_lane.proofs.FoundByName.{found_in_zone}
use Rattle.tz_lane.proofs.finding.find_scan.Goals as goal

pub returns-in-Ok : goal.returns-in-Ok
returns-in-Ok c =
    let fits : FitsSigned w64 c.args.from = c.ranges.from in
    let is = simp to_z-of_z at c.find_scan.ensures in
    let finds = subst (λ (f : Found). FindsScan c.in-Ok.zone c.args.from c.args.step c.args.count f) (sym is) refl in
    found_in_zone c.args.version.now c.args.name.now (λ compiled. FindsScan compiled c.args.from c.args.step c.args.count) c.in-Ok.zone c.find_scan.result (λ never. never) c.zone.ensures.is c.in-Ok.ensures.found finds

pub returns-in-Err : goal.returns-in-Err
returns-in-Err c = (c.args.version.now, c.zone.ensures.is, c.in-Err.ensures.missing.0 refl)
