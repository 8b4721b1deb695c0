use Rattle.std.proofs.Common.{rules, FitsSigned}
use Rattle.std.specs.Int.{w64}
use Rattle.std.proofs.lemmas.Int.{to_z-of_z}
use Rattle.tz_rules.proofs.Instants.{comes_under}
use Rattle.tz_rules.proofs.instant.instant_of.Goals as goal

pub returns-clause-comes : goal.returns-clause-comes
returns-clause-comes g c =
    let stdoff_fits : FitsSigned w64 c.args.stdoff = c.ranges.stdoff in
    let save_fits : FitsSigned w64 c.save_by.result = search rules in
    let result_fits : FitsSigned w64 c.instant_after.result = search rules in
    let is = simp to_z-of_z at c.instant_after.ensures.value in
    simp to_z-of_z (comes_under c.args.set.now c.args.stdoff c.args.occurrence.now c.last_before-previous.result c.save_by.result c.instant_after.result c.last_before-previous.ensures.last c.save_by.ensures.value is)
