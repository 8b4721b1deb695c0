use Rattle.std.proofs.Common.{◌≤◌, ◌∙◌, sym, rules, arith, FitsSigned, pos, ◌-ℤ◌}
use Rattle.std.specs.Int.{w32}
use Rattle.std.proofs.lemmas.Int.{ints, to_z-of_z}
use Rattle.tz_rules.proofs.BeforeMark.{none_above_last, none_above_more, two_looks, look_occurs, look_since, last_is, none_is}
use Rattle.tz_rules.proofs.previous_occurrence.last_of_rule.Goals as goal

pub loop-back-init : goal.loop-back-init
loop-back-init g c =
    let since_fits : FitsSigned w32 c.args.since = c.ranges.since in
    let latest_fits : FitsSigned w32 c.args.latest = c.ranges.latest in
    let last_fits : FitsSigned w32 c.last_year-last.result = search rules in
    let is_last = simp to_z-of_z at c.last_year-last.ensures.last in
    simp to_z-of_z (record {
      none_above = none_above_last c.args.rule.now c.args.since c.args.latest c.last_year-last.result _ c.args.mark c.requires.latest is_last (omega (arith, ints));
      steps = omega arith;
    })

pub years_before-requires-clause-back_in : goal.years_before-requires-clause-back_in
years_before-requires-clause-back_in g c =
    let since_fits : FitsSigned w32 c.args.since = c.ranges.since in
    let latest_fits : FitsSigned w32 c.args.latest = c.ranges.latest in
    let first_fits : FitsSigned w32 c.first_year-first.result = search rules in
    let last_fits : FitsSigned w32 c.last_year-last.result = search rules in
    let is_first = simp to_z-of_z at c.first_year-first.ensures.first in
    let is_last = simp to_z-of_z at c.last_year-last.ensures.last in
    let above = simp to_z-of_z at c.loop-back.invariant.none_above in
    let count = simp to_z-of_z at c.years_through-back-end.ensures.count in
    two_looks c.args.rule.now c.args.since c.args.latest c.first_year-first.result c.last_year-last.result c.args.mark c.years_through-back-end.result c.loop-back.back c.requires.latest is_first is_last count c.loop-back.auto.back-end above

pub look-found-requires : goal.look-found-requires
look-found-requires g c =
    let since_fits : FitsSigned w32 c.args.since = c.ranges.since in
    let latest_fits : FitsSigned w32 c.args.latest = c.ranges.latest in
    let first_fits : FitsSigned w32 c.first_year-first.result = search rules in
    let last_fits : FitsSigned w32 c.last_year-last.result = search rules in
    let year_fits : FitsSigned w32 c.years_before.result = search rules in
    let is_first = simp to_z-of_z at c.first_year-first.ensures.first in
    let is_last = simp to_z-of_z at c.last_year-last.ensures.last in
    let count = simp to_z-of_z at c.years_through-back-end.ensures.count in
    let year = simp to_z-of_z at c.years_before.ensures in
    simp to_z-of_z (look_occurs c.args.rule.now c.args.since c.args.latest c.first_year-first.result c.last_year-last.result c.years_before.result c.years_through-back-end.result c.loop-back.back is_first is_last count c.loop-back-test.true year)

pub returns-then-is_before-clause-last : goal.returns-then-is_before-clause-last
returns-then-is_before-clause-last g c =
    let since_fits : FitsSigned w32 c.args.since = c.ranges.since in
    let latest_fits : FitsSigned w32 c.args.latest = c.ranges.latest in
    let first_fits : FitsSigned w32 c.first_year-first.result = search rules in
    let last_fits : FitsSigned w32 c.last_year-last.result = search rules in
    let year_fits : FitsSigned w32 c.years_before.result = search rules in
    let is_first = simp to_z-of_z at c.first_year-first.ensures.first in
    let is_last = simp to_z-of_z at c.last_year-last.ensures.last in
    let above = simp to_z-of_z at c.loop-back.invariant.none_above in
    let count = simp to_z-of_z at c.years_through-back-end.ensures.count in
    let year = simp to_z-of_z at c.years_before.ensures in
    let found = simp to_z-of_z at c.look-found.ensures.value in
    let above_year = rw (← year) at above in
    last_is c.args.rule.now c.args.place c.args.since c.years_before.result c.args.mark c.look-found.result found
    (look_occurs c.args.rule.now c.args.since c.args.latest c.first_year-first.result c.last_year-last.result c.years_before.result c.years_through-back-end.result c.loop-back.back is_first is_last count c.loop-back-test.true year)
    (look_since c.args.rule.now c.args.since c.first_year-first.result c.last_year-last.result c.years_before.result c.years_through-back-end.result c.loop-back.back is_first count c.loop-back-test.true year)
    (sym c.is_before.ensures ∙ c.if-is_before.true) above_year

pub returns-then-is_before-clause-steps : goal.returns-then-is_before-clause-steps
returns-then-is_before-clause-steps g c =
    let since_fits : FitsSigned w32 c.args.since = c.ranges.since in
    let latest_fits : FitsSigned w32 c.args.latest = c.ranges.latest in
    let first_fits : FitsSigned w32 c.first_year-first.result = search rules in
    let last_fits : FitsSigned w32 c.last_year-last.result = search rules in
    let is_first = simp to_z-of_z at c.first_year-first.ensures.first in
    let is_last = simp to_z-of_z at c.last_year-last.ensures.last in
    let above = simp to_z-of_z at c.loop-back.invariant.none_above in
    let count = simp to_z-of_z at c.years_through-back-end.ensures.count in
    let few : c.loop-back.back ≤ 2 = two_looks c.args.rule.now c.args.since c.args.latest c.first_year-first.result c.last_year-last.result c.args.mark c.years_through-back-end.result c.loop-back.back c.requires.latest is_first is_last count c.loop-back.auto.back-end above in
    omega arith

pub loop-back-preserved : goal.loop-back-preserved
loop-back-preserved g c =
    let since_fits : FitsSigned w32 c.args.since = c.ranges.since in
    let last_fits : FitsSigned w32 c.last_year-last.result = search rules in
    let year_fits : FitsSigned w32 c.years_before.result = search rules in
    let above = simp to_z-of_z at c.loop-back.invariant.none_above in
    let year = simp to_z-of_z at c.years_before.ensures in
    let found = simp to_z-of_z at c.look-found.ensures.value in
    let fails = rw found at (sym c.is_before.ensures ∙ c.if-is_before.false) in
    let here = rw year at fails in
    simp to_z-of_z (record {
      none_above = none_above_more c.args.rule.now c.args.since (c.last_year-last.result -ℤ pos c.loop-back.back) _ c.args.mark (omega (arith, ints)) here above;
      steps = omega arith;
    })

pub returns-clause-last : goal.returns-clause-last
returns-clause-last g c =
    let since_fits : FitsSigned w32 c.args.since = c.ranges.since in
    let first_fits : FitsSigned w32 c.first_year-first.result = search rules in
    let last_fits : FitsSigned w32 c.last_year-last.result = search rules in
    let is_first = simp to_z-of_z at c.first_year-first.ensures.first in
    let above = simp to_z-of_z at c.loop-back.invariant.none_above in
    let count = simp to_z-of_z at c.years_through-back-end.ensures.count in
    none_is c.args.rule.now c.args.place c.args.since c.first_year-first.result c.last_year-last.result c.args.mark c.years_through-back-end.result c.loop-back.back is_first count c.loop-back-test.false c.loop-back.auto.back-end above

pub returns-clause-steps : goal.returns-clause-steps
returns-clause-steps g c =
    let since_fits : FitsSigned w32 c.args.since = c.ranges.since in
    let latest_fits : FitsSigned w32 c.args.latest = c.ranges.latest in
    let first_fits : FitsSigned w32 c.first_year-first.result = search rules in
    let last_fits : FitsSigned w32 c.last_year-last.result = search rules in
    let is_first = simp to_z-of_z at c.first_year-first.ensures.first in
    let is_last = simp to_z-of_z at c.last_year-last.ensures.last in
    let above = simp to_z-of_z at c.loop-back.invariant.none_above in
    let count = simp to_z-of_z at c.years_through-back-end.ensures.count in
    let few : c.loop-back.back ≤ 2 = two_looks c.args.rule.now c.args.since c.args.latest c.first_year-first.result c.last_year-last.result c.args.mark c.years_through-back-end.result c.loop-back.back c.requires.latest is_first is_last count c.loop-back.auto.back-end above in
    omega arith
