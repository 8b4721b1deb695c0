use Rattle.std.proofs.Common.{rules, FitsSigned}
use Rattle.std.specs.Int.{w64}
use Rattle.std.proofs.lemmas.Int.{to_z-of_z}
use Rattle.tz_rules.proofs.UntilLemmas.{last_passes}
use Rattle.tz_rules.proofs.until.start.Goals as goal

pub returns-in-Some : goal.returns-in-Some
returns-in-Some g c =
    let second_fits : FitsSigned w64 c.sure_second-second.result = search rules in
    let last = simp to_z-of_z at c.in-Some.ensures.last in
    last_passes c.args.set.now c.args.stdoff c.args.until.now.year c.args.until.now.moment c.sure_second-second.result c.in-Some.last c.requires.stdoff_in c.sure_second-second.ensures.value last

pub returns-in-None : goal.returns-in-None
returns-in-None g c =
    let stdoff_fits : FitsSigned w64 c.args.stdoff = c.ranges.stdoff in
    simp to_z-of_z at c.first_before.ensures
