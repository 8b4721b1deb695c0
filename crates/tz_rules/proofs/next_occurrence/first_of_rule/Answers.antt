use Rattle.std.proofs.Common.{◌≤◌, ◌∙◌, sym, rules, arith, FitsSigned, pos, ◌+ℤ◌}
use Rattle.std.specs.Int.{w32}
use Rattle.std.proofs.lemmas.Int.{ints, to_z-of_z}
use Rattle.tz_rules.proofs.AfterMark.{none_below_first, none_below_more, two_looks_on, look_on_occurs, look_on_through, first_is, none_on}
use Rattle.tz_rules.proofs.next_occurrence.first_of_rule.Goals as goal

pub loop-on-init : goal.loop-on-init
loop-on-init g c =
    let earliest_fits : FitsSigned w32 c.args.earliest = c.ranges.earliest in
    let through_fits : FitsSigned w32 c.args.through = c.ranges.through in
    let first_fits : FitsSigned w32 c.first_year-first.result = search rules in
    let last_fits : FitsSigned w32 c.last_year-last.result = search rules in
    let is_first = simp to_z-of_z at c.first_year-first.ensures.first in
    simp to_z-of_z (record {
      none_below = none_below_first c.args.rule.now c.args.earliest c.args.through c.first_year-first.result _ c.args.mark c.requires.earliest is_first (omega (arith, ints));
      steps = omega arith;
    })

pub years_after-requires-clause-on_in : goal.years_after-requires-clause-on_in
years_after-requires-clause-on_in g c =
    let earliest_fits : FitsSigned w32 c.args.earliest = c.ranges.earliest in
    let through_fits : FitsSigned w32 c.args.through = c.ranges.through in
    let first_fits : FitsSigned w32 c.first_year-first.result = search rules in
    let last_fits : FitsSigned w32 c.last_year-last.result = search rules in
    let is_first = simp to_z-of_z at c.first_year-first.ensures.first in
    let is_last = simp to_z-of_z at c.last_year-last.ensures.last in
    let count = simp to_z-of_z at c.years_through-on-end.ensures.count in
    let below = simp to_z-of_z at c.loop-on.invariant.none_below in
    two_looks_on c.args.rule.now c.args.earliest c.args.through c.first_year-first.result c.last_year-last.result c.args.mark c.years_through-on-end.result c.loop-on.on c.requires.earliest is_first is_last count c.loop-on.auto.on-end below

pub look-found-requires : goal.look-found-requires
look-found-requires g c =
    let earliest_fits : FitsSigned w32 c.args.earliest = c.ranges.earliest in
    let through_fits : FitsSigned w32 c.args.through = c.ranges.through in
    let first_fits : FitsSigned w32 c.first_year-first.result = search rules in
    let last_fits : FitsSigned w32 c.last_year-last.result = search rules in
    let is_first = simp to_z-of_z at c.first_year-first.ensures.first in
    let is_last = simp to_z-of_z at c.last_year-last.ensures.last in
    let count = simp to_z-of_z at c.years_through-on-end.ensures.count in
    let year_fits : FitsSigned w32 c.years_after.result = search rules in
    let year = simp to_z-of_z at c.years_after.ensures in
    simp to_z-of_z (look_on_occurs c.args.rule.now c.args.earliest c.args.through c.first_year-first.result c.last_year-last.result c.years_after.result c.years_through-on-end.result c.loop-on.on is_first is_last count c.loop-on-test.true year)

pub returns-then-is_after-clause-first : goal.returns-then-is_after-clause-first
returns-then-is_after-clause-first g c =
    let earliest_fits : FitsSigned w32 c.args.earliest = c.ranges.earliest in
    let through_fits : FitsSigned w32 c.args.through = c.ranges.through in
    let first_fits : FitsSigned w32 c.first_year-first.result = search rules in
    let last_fits : FitsSigned w32 c.last_year-last.result = search rules in
    let is_first = simp to_z-of_z at c.first_year-first.ensures.first in
    let is_last = simp to_z-of_z at c.last_year-last.ensures.last in
    let count = simp to_z-of_z at c.years_through-on-end.ensures.count in
    let below = simp to_z-of_z at c.loop-on.invariant.none_below in
    let year_fits : FitsSigned w32 c.years_after.result = search rules in
    let year = simp to_z-of_z at c.years_after.ensures in
    let found = simp to_z-of_z at c.look-found.ensures.value in
    let below_year = rw (← year) at below in
    first_is c.args.rule.now c.args.place c.args.through c.years_after.result c.args.mark c.look-found.result found
    (look_on_occurs c.args.rule.now c.args.earliest c.args.through c.first_year-first.result c.last_year-last.result c.years_after.result c.years_through-on-end.result c.loop-on.on is_first is_last count c.loop-on-test.true year)
    (look_on_through c.args.rule.now c.args.through c.first_year-first.result c.last_year-last.result c.years_after.result c.years_through-on-end.result c.loop-on.on is_last count c.loop-on-test.true year)
    (sym c.is_after.ensures ∙ c.if-is_after.true) below_year

pub returns-then-is_after-clause-steps : goal.returns-then-is_after-clause-steps
returns-then-is_after-clause-steps g c =
    let earliest_fits : FitsSigned w32 c.args.earliest = c.ranges.earliest in
    let through_fits : FitsSigned w32 c.args.through = c.ranges.through in
    let first_fits : FitsSigned w32 c.first_year-first.result = search rules in
    let last_fits : FitsSigned w32 c.last_year-last.result = search rules in
    let is_first = simp to_z-of_z at c.first_year-first.ensures.first in
    let is_last = simp to_z-of_z at c.last_year-last.ensures.last in
    let count = simp to_z-of_z at c.years_through-on-end.ensures.count in
    let below = simp to_z-of_z at c.loop-on.invariant.none_below in
    let few : c.loop-on.on ≤ 2 = two_looks_on c.args.rule.now c.args.earliest c.args.through c.first_year-first.result c.last_year-last.result c.args.mark c.years_through-on-end.result c.loop-on.on c.requires.earliest is_first is_last count c.loop-on.auto.on-end below in
    omega arith

pub loop-on-preserved : goal.loop-on-preserved
loop-on-preserved g c =
    let earliest_fits : FitsSigned w32 c.args.earliest = c.ranges.earliest in
    let through_fits : FitsSigned w32 c.args.through = c.ranges.through in
    let first_fits : FitsSigned w32 c.first_year-first.result = search rules in
    let last_fits : FitsSigned w32 c.last_year-last.result = search rules in
    let is_first = simp to_z-of_z at c.first_year-first.ensures.first in
    let below = simp to_z-of_z at c.loop-on.invariant.none_below in
    let year_fits : FitsSigned w32 c.years_after.result = search rules in
    let year = simp to_z-of_z at c.years_after.ensures in
    let found = simp to_z-of_z at c.look-found.ensures.value in
    let fails = rw found at (sym c.is_after.ensures ∙ c.if-is_after.false) in
    let here = rw year at fails in
    simp to_z-of_z (record {
      none_below = none_below_more c.args.rule.now c.args.through (c.first_year-first.result +ℤ pos c.loop-on.on) _ c.args.mark (omega (arith, ints)) here below;
      steps = omega arith;
    })

pub returns-clause-first : goal.returns-clause-first
returns-clause-first g c =
    let earliest_fits : FitsSigned w32 c.args.earliest = c.ranges.earliest in
    let through_fits : FitsSigned w32 c.args.through = c.ranges.through in
    let first_fits : FitsSigned w32 c.first_year-first.result = search rules in
    let last_fits : FitsSigned w32 c.last_year-last.result = search rules in
    let is_first = simp to_z-of_z at c.first_year-first.ensures.first in
    let is_last = simp to_z-of_z at c.last_year-last.ensures.last in
    let count = simp to_z-of_z at c.years_through-on-end.ensures.count in
    let below = simp to_z-of_z at c.loop-on.invariant.none_below in
    none_on c.args.rule.now c.args.place c.args.through c.first_year-first.result c.last_year-last.result c.args.mark c.years_through-on-end.result c.loop-on.on is_last count c.loop-on-test.false c.loop-on.auto.on-end below

pub returns-clause-steps : goal.returns-clause-steps
returns-clause-steps g c =
    let earliest_fits : FitsSigned w32 c.args.earliest = c.ranges.earliest in
    let through_fits : FitsSigned w32 c.args.through = c.ranges.through in
    let first_fits : FitsSigned w32 c.first_year-first.result = search rules in
    let last_fits : FitsSigned w32 c.last_year-last.result = search rules in
    let is_first = simp to_z-of_z at c.first_year-first.ensures.first in
    let is_last = simp to_z-of_z at c.last_year-last.ensures.last in
    let count = simp to_z-of_z at c.years_through-on-end.ensures.count in
    let below = simp to_z-of_z at c.loop-on.invariant.none_below in
    let few : c.loop-on.on ≤ 2 = two_looks_on c.args.rule.now c.args.earliest c.args.through c.first_year-first.result c.last_year-last.result c.args.mark c.years_through-on-end.result c.loop-on.on c.requires.earliest is_first is_last count c.loop-on.auto.on-end below in
    omega arith
