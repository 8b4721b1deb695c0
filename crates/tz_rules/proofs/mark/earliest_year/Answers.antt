use Rattle.std.proofs.Common.{rules, arith, FitsSigned}
use Rattle.std.specs.Int.{w32, w64}
use Rattle.std.proofs.lemmas.Int.{ints, to_z-of_z}
use Rattle.tz_rules.proofs.YearBounds.{earliest_is}
use Rattle.tz_rules.proofs.mark.earliest_year.Goals as goal

pub returns-clause-earliest : goal.returns-clause-earliest
returns-clause-earliest c =
    let second_fits : FitsSigned w64 c.args.second = c.ranges.second in
    let year_fits : FitsSigned w32 c.civil_year.result = search rules in
    simp to_z-of_z (earliest_is c.args.second _ c.civil_year.result (omega (arith, ints)) c.civil_year.ensures.bound c.civil_year.ensures.year)
