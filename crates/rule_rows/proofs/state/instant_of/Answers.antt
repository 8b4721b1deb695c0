use Rattle.std.proofs.Common.{arith, FitsSigned}
use Rattle.std.specs.Int.{w64}
use Rattle.std.proofs.lemmas.Int.{ints, to_z-of_z}
use Rattle.rule_rows.proofs.state.instant_of.Goals as goal

pub returns : goal.returns
returns c =
    let stdoff_fits : FitsSigned w64 c.args.stdoff = c.ranges.stdoff in
    let save_fits : FitsSigned w64 c.args.save = c.ranges.save in
    let nominal = c.nominal.ensures.value in
    let shifted = simp to_z-of_z at c.shift_of.ensures.value in
    let kept = rw c.rule.ensures at shifted in
    rw (← nominal, ← kept) (omega (arith, ints))
