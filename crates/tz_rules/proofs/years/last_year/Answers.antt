use Rattle.std.proofs.Common.{rules, arith, FitsSigned, pos, ◌≤ℤ◌}
use Rattle.std.specs.Int.{w32}
use Rattle.std.proofs.lemmas.Int.{ints, to_z-of_z}
use Rattle.tz_rules.proofs.YearBounds.{min_greatest}
use Rattle.tz_rules.proofs.years.last_year.Goals as goal

pub returns-clause-last : goal.returns-clause-last
returns-clause-last c =
    let through_fits : FitsSigned w32 c.args.through = c.ranges.through in
    let to_fits : FitsSigned w32 c.args.rule.now.to = search rules in
    let min_fits : FitsSigned w32 c.min.result = search rules in
    let result_fits : FitsSigned w32 c.min-2.result = search rules in
    let one = simp to_z-of_z at c.min.ensures in
    let two = simp to_z-of_z at c.min-2.ensures in
    simp to_z-of_z (record {
      to = omega (arith, ints);
      up_to = omega (arith, ints);
      high = omega (arith, ints);
      greatest = λ year occurs within.
          let once : year ≤ℤ c.min.result = min_greatest year c.args.rule.now.to c.args.through c.min.result one.value occurs.through within in
          min_greatest year c.min.result (pos 9998) c.min-2.result two.value once occurs.year_in.1;
    })
