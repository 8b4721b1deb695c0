use Rattle.std.proofs.Common.{◌≤ℤ◌, rules, arith, FitsSigned}
use Rattle.std.specs.Int.{w64}
use Rattle.std.proofs.lemmas.Int.{ints, to_z-of_z}
use Rattle.tz_specs.specs.RulesFollowed.{rules_followed, most_rules_followed}
use Rattle.tz_expand.specs.Followed.{followed_by}
use Rattle.tz_expand.specs.Compiled.{periods}
use Rattle.tz_expand.proofs.Lines.{left_later, found_in_line, few_steps, line_few}
use Rattle.tz_expand.proofs.info.range_among.Goals as goal

pub loop-line-preserved : goal.loop-line-preserved
loop-line-preserved g c =
    let t_fits : FitsSigned w64 c.args.t = c.ranges.t in
    let end_fits : FitsSigned w64 c.line-item.result.end = search rules in
    let ended : c.line-item.result.end ≤ℤ c.args.t = omega (arith, ints, c.if-t-line.false) in
    let left = simp to_z-of_z at c.loop-line.invariant.left in
    simp to_z-of_z (record {
      left = left_later c.as_slice-lines.result.now c.loop-line.line-index c.line-item.result c.args.t c.loop-line-test.true c.line-item.is left ended;
      steps = c.loop-line.invariant.steps;
    })

pub returns-then-t-line-clause-range : goal.returns-then-t-line-clause-range
returns-then-t-line-clause-range g c =
    let t_fits : FitsSigned w64 c.args.t = c.ranges.t in
    let holds = simp to_z-of_z at c.range_in_line.ensures.holds in
    found_in_line c.args.zone.now c.as_slice-lines.result.now c.loop-line.line-index c.line-item.result c.args.t c.range_in_line.result c.as_slice-lines.ensures c.loop-line-test.true c.line-item.is c.range_in_line.ensures.range holds

pub returns-then-t-line-clause-steps : goal.returns-then-t-line-clause-steps
returns-then-t-line-clause-steps g c =
    let zone = c.args.zone.now in
    let few = line_few zone c.as_slice-lines.result.now c.loop-line.line-index c.line-item.result c.as_slice-lines.ensures c.loop-line-test.true c.line-item.is in
    let counted = rw c.loop-line.invariant.steps at c.range_in_line.ensures.steps in
    few_steps (rules_followed (followed_by c.line-item.result.rules)) (most_rules_followed (periods zone.lines)) c.args.steps.now c.range_in_line.new.steps few counted
