use Rattle.std.proofs.Common.{sym, ◌∙◌, rules, FitsSigned}
use Rattle.std.specs.Int.{w64}
use Rattle.std.proofs.lemmas.Int.{to_z-of_z}
use Rattle.tz_specs.proofs.UntilLemmas.{until_before_first}
use Rattle.tz_rules.proofs.until.until_uncounted.Goals as goal

pub returns-clause-value : goal.returns-clause-value
returns-clause-value g c =
    let stdoff_fits : FitsSigned w64 c.args.stdoff = c.ranges.stdoff in
    let until_fits : FitsSigned w64 c.until_with.result = search rules in
    let before = simp to_z-of_z at c.in-None.ensures in
    let until = simp to_z-of_z at c.until_with.ensures.value in
    let is = until_before_first c.args.set.now c.args.stdoff c.args.until.now.year c.args.until.now.moment before in
    simp to_z-of_z (until ∙ sym is)
