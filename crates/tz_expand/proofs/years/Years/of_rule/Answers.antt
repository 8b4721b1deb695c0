use Rattle.std.proofs.Common.{rules, arith, FitsSigned, to_z, of_z, ◌-ℤ◌, pos, ◌∙◌}
use Rattle.std.specs.Int.{w32}
use Rattle.std.proofs.lemmas.Int.{ints, clamps, to_z-of_z}
use Rattle.tz_expand.proofs.LookLemmas.{first_look_is, last_look_is, through_bounds}
use Rattle.tz_expand.proofs.years.Years.of_rule.Goals as goal

pub returns-clause-first : goal.returns-clause-first
returns-clause-first c =
    let from_fits : FitsSigned w32 c.args.rule.now.from = search rules in
    let to_fits : FitsSigned w32 c.args.rule.now.to = search rules in
    let near_fits : FitsSigned w32 c.args.self.first = search rules in
    let since_fits : FitsSigned w32 c.max-since.result = search rules in
    let through_fits : FitsSigned w32 c.min-through.result = search rules in
    let low_fits : FitsSigned w32 c.min.result = search rules in
    let first_fits : FitsSigned w32 c.max.result = search rules in
    let since_is = simp to_z-of_z at c.max-since.ensures.value in
    let through_is = simp to_z-of_z at c.min-through.ensures.value in
    let low_is = simp to_z-of_z at c.min.ensures.value in
    let first_is = simp to_z-of_z at c.max.ensures.value in
    to_z-of_z w32 c.max.result first_fits ∙ first_look_is c.args.rule.now c.args.self.first c.max-since.result c.min-through.result (to_z w32 (of_z w32 (c.min-through.result -ℤ pos 1))) c.min.result c.max.result since_is through_is (omega (arith, ints, through_bounds c.args.rule.now c.min-through.result through_is)) low_is first_is

pub returns-clause-last : goal.returns-clause-last
returns-clause-last c =
    let from_fits : FitsSigned w32 c.args.rule.now.from = search rules in
    let to_fits : FitsSigned w32 c.args.rule.now.to = search rules in
    let near_fits : FitsSigned w32 c.args.self.last = search rules in
    let since_fits : FitsSigned w32 c.max-since.result = search rules in
    let through_fits : FitsSigned w32 c.min-through.result = search rules in
    let high_fits : FitsSigned w32 c.max-2.result = search rules in
    let last_fits : FitsSigned w32 c.min-2.result = search rules in
    let since_is = simp to_z-of_z at c.max-since.ensures.value in
    let through_is = simp to_z-of_z at c.min-through.ensures.value in
    let high_is = simp to_z-of_z at c.max-2.ensures.value in
    let last_is = simp to_z-of_z at c.min-2.ensures.value in
    to_z-of_z w32 c.min-2.result last_fits ∙ last_look_is c.args.rule.now c.args.self.last c.max-since.result c.min-through.result c.max-2.result c.min-2.result since_is through_is high_is last_is

pub returns-clause-bound : goal.returns-clause-bound
returns-clause-bound c = ((omega (arith, ints, clamps), omega (arith, ints, clamps)), (omega (arith, ints, clamps), omega (arith, ints, clamps)))
