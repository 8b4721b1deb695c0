use Rattle.std.proofs.Common.{rules, arith, FitsSigned}
use Rattle.std.specs.Int.{w32, w64}
use Rattle.std.proofs.lemmas.Int.{ints, to_z-of_z}
use Rattle.tz_expand.proofs.LookLemmas.{are_years_near, is_span}
use Rattle.tz_expand.proofs.years.Years.near.Goals as goal

pub returns-clause-near : goal.returns-clause-near
returns-clause-near c =
    let from_fits : FitsSigned w64 c.args.from = c.ranges.from in
    let to_fits : FitsSigned w64 c.args.to = c.ranges.to in
    let first_fits : FitsSigned w32 c.civil_year.result = search rules in
    let last_fits : FitsSigned w32 c.civil_year-2.result = search rules in
    let begins = simp to_z-of_z at c.civil_year.ensures.year in
    are_years_near c.args.from c.args.to _ c.civil_year.result c.civil_year-2.result _ _ (omega (arith, ints)) (omega (arith, ints)) (omega (arith, ints)) begins c.civil_year-2.ensures.year

pub returns-clause-span : goal.returns-clause-span
returns-clause-span c =
    let from_fits : FitsSigned w64 c.args.from = c.ranges.from in
    let to_fits : FitsSigned w64 c.args.to = c.ranges.to in
    let first_fits : FitsSigned w32 c.civil_year.result = search rules in
    let last_fits : FitsSigned w32 c.civil_year-2.result = search rules in
    let begins = simp to_z-of_z at c.civil_year.ensures.year in
    is_span c.args.from c.args.to _ c.civil_year.result c.civil_year-2.result _ _ (omega (arith, ints)) c.requires.ordered (omega (arith, ints)) (omega (arith, ints)) c.civil_year.ensures.bound c.civil_year-2.ensures.bound begins c.civil_year-2.ensures.year
