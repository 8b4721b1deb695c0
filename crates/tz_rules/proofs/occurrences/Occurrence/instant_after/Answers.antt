use Rattle.std.proofs.Common.{arith, FitsSigned}
use Rattle.std.specs.Int.{w64}
use Rattle.std.proofs.lemmas.Int.{ints, to_z-of_z}
use Rattle.tz_rules.proofs.occurrences.Occurrence.instant_after.Goals as goal

pub returns-clause-value : goal.returns-clause-value
returns-clause-value c =
    let stdoff_fits : FitsSigned w64 c.args.stdoff = c.ranges.stdoff in
    let save_fits : FitsSigned w64 c.args.save = c.ranges.save in
    let shifted = simp to_z-of_z at c.shift_of.ensures.value in
    let nominal = c.self.invariant.0 in
    rw (← c.self.view_is, ← shifted, ← nominal) (omega (arith, ints))
