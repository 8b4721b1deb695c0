use Rattle.std.proofs.Common.{rules, arith, FitsSigned, pos, neg_ℤ, ◌≤ℤ◌}
use Rattle.std.specs.Int.{w32}
use Rattle.std.proofs.lemmas.Int.{ints, to_z-of_z}
use Rattle.tz_rules.proofs.YearBounds.{max_least}
use Rattle.tz_rules.proofs.years.first_year.Goals as goal

pub returns-clause-first : goal.returns-clause-first
returns-clause-first c =
    let since_fits : FitsSigned w32 c.args.since = c.ranges.since in
    let from_fits : FitsSigned w32 c.args.rule.now.from = search rules in
    let max_fits : FitsSigned w32 c.max.result = search rules in
    let result_fits : FitsSigned w32 c.max-2.result = search rules in
    let one = simp to_z-of_z at c.max.ensures in
    let two = simp to_z-of_z at c.max-2.ensures in
    simp to_z-of_z (record {
      from = omega (arith, ints);
      since_on = omega (arith, ints);
      low = omega (arith, ints);
      least = λ year occurs within.
          let once : c.max.result ≤ℤ year = max_least year c.args.rule.now.from c.args.since c.max.result one.value occurs.since within in
          max_least year c.max.result (neg_ℤ (pos 9998)) c.max-2.result two.value once occurs.year_in.0;
    })
