use Rattle.std.proofs.Common.{arith, rules, FitsSigned}
use Rattle.std.specs.Int.{w32, w64}
use Rattle.std.proofs.lemmas.Int.{ints, to_z-of_z}
use Rattle.tz_rules.proofs.until.until_with.Goals as goal

pub returns-clause-value : goal.returns-clause-value
returns-clause-value c =
    let year_fits : FitsSigned w32 c.args.until.now.year = search rules in
    let stdoff_fits : FitsSigned w64 c.args.stdoff = c.ranges.stdoff in
    let save_fits : FitsSigned w64 c.args.save = c.ranges.save in
    let nominal = simp to_z-of_z at c.nominal.ensures.value in
    let shifted = simp to_z-of_z at c.shift_of.ensures.value in
    rw (← nominal, ← shifted) (omega (arith, ints))
