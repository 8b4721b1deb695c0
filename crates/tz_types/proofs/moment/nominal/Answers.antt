use Rattle.std.proofs.Common.{arith, FitsSigned}
use Rattle.std.specs.Int.{w32}
use Rattle.std.proofs.lemmas.Int.{ints, to_z-of_z}
use Rattle.tz_types.proofs.moment.nominal.Goals as goal

pub returns-clause-value : goal.returns-clause-value
returns-clause-value c =
    let fits : FitsSigned w32 c.args.year = c.ranges.year in
    let value = simp to_z-of_z at c.day_of.ensures.value in
    rw (← value) (omega (arith, ints))
