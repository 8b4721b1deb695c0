use Rattle.std.proofs.Common.{sym, ◌∙◌, rules, FitsSigned}
use Rattle.std.specs.Int.{w64}
use Rattle.std.proofs.lemmas.Int.{to_z-of_z}
use Rattle.tz_specs.proofs.UntilLemmas.{until_under}
use Rattle.tz_rules.proofs.UntilLemmas.{later_falls}
use Rattle.tz_rules.proofs.until.until_from.Goals as goal

pub loop-next-smaller : goal.loop-next-smaller
loop-next-smaller g c =
    later_falls c.args.set.now c.loop-next.under.occurrence c.in-Some.next.occurrence c.in-Some.ensures.1.is c.in-Some.ensures.0

pub returns-clause-value : goal.returns-clause-value
returns-clause-value g c =
    let stdoff_fits : FitsSigned w64 c.args.stdoff = c.ranges.stdoff in
    let save_fits : FitsSigned w64 c.save.result = search rules in
    let until_fits : FitsSigned w64 c.until_with.result = search rules in
    let under = simp to_z-of_z at c.in_default.ensures in
    let until_by = simp to_z-of_z at c.until_with.ensures.value in
    let until = rw c.save.ensures.value at until_by in
    let is = until_under c.args.set.now c.args.stdoff c.args.until.now.year c.args.until.now.moment c.loop-next.under.occurrence under in
    simp to_z-of_z (until ∙ sym is)
