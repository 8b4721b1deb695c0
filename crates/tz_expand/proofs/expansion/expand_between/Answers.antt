use Rattle.std.proofs.Common.{refl, ◌+◌, ◌-◌, ◌∙◌, sym, ap, arith, rules, length, FitsSigned}
use Rattle.std.specs.Prelude.{reverse}
use Rattle.std.specs.Int.{w64}
use Rattle.std.proofs.lemmas.Int.{to_z-of_z}
use Rattle.tz_expand.proofs.Between.{lines_none, line_told, line_takes_time, line_counted, zone_counted, all_lines_told, written_back}
use Rattle.tz_expand.proofs.expansion.expand_between.Goals as goal

pub loop-back-init : goal.loop-back-init
loop-back-init g c =
    let from_fits : FitsSigned w64 c.args.from = c.ranges.from in
    let to_fits : FitsSigned w64 c.args.to = c.ranges.to in
    let lines = c.as_slice-lines.result.now in
    simp to_z-of_z (record {
      told = lines_none c.args.from c.args.to lines (length lines - 0) c.new-ranges.result.items (omega arith) (search rules);
      steps = λ years touches. omega arith;
    })

pub push_line-requires-clause-takes_time : goal.push_line-requires-clause-takes_time
push_line-requires-clause-takes_time g c =
    let lines = c.as_slice-lines.result.now in
    line_takes_time c.args.zone.now lines c.index-lines-lines.result (length lines - 1 - c.loop-back.back) c.as_slice-lines.ensures (omega (arith, c.loop-back-test.true)) c.index-lines-lines.is

pub returns-in_err-push_line-clause-steps : goal.returns-in_err-push_line-clause-steps
returns-in_err-push_line-clause-steps g c = λ years touches.
    let from_fits : FitsSigned w64 c.args.from = c.ranges.from in
    let to_fits : FitsSigned w64 c.args.to = c.ranges.to in
    let lines = c.as_slice-lines.result.now in
    let zone = c.args.zone.now in
    let from = c.args.from in
    let to = c.args.to in
    let place = length lines - 1 - c.loop-back.back in
    let before = simp to_z-of_z at c.loop-back.invariant.steps in
    let more = simp to_z-of_z at c.push_line.ensures.steps in
    let counted = line_counted from to lines c.index-lines-lines.result place (length lines - c.loop-back.back) place years c.args.steps.now c.loop-back.steps c.push_line.new.steps refl (omega (arith, c.loop-back-test.true)) (omega (arith, c.loop-back-test.true)) c.index-lines-lines.is (before years touches) (more years touches) in
    zone_counted from to zone lines place years c.args.steps.now c.push_line.new.steps c.as_slice-lines.ensures counted

pub loop-back-preserved : goal.loop-back-preserved
loop-back-preserved g c =
    let from_fits : FitsSigned w64 c.args.from = c.ranges.from in
    let to_fits : FitsSigned w64 c.args.to = c.ranges.to in
    let lines = c.as_slice-lines.result.now in
    let from = c.args.from in
    let to = c.args.to in
    let back = c.loop-back.back in
    let place = length lines - 1 - back in
    let before = simp to_z-of_z at c.loop-back.invariant.steps in
    let more = simp to_z-of_z at c.push_line.ensures.steps in
    let so_far = simp to_z-of_z at c.loop-back.invariant.told in
    let told = simp to_z-of_z at c.in_ok-push_line.ensures.ranges in
    simp to_z-of_z (record {
      told = line_told from to lines c.index-lines-lines.result place (length lines - back) (length lines - (back + 1)) c.loop-back.ranges.items c.push_line.new.ranges.items (omega arith) (omega (arith, c.loop-back-test.true)) (omega (arith, c.loop-back-test.true)) c.index-lines-lines.is so_far told;
      steps = λ years touches. line_counted from to lines c.index-lines-lines.result place (length lines - back) (length lines - (back + 1)) years c.args.steps.now c.loop-back.steps c.push_line.new.steps (omega arith) (omega (arith, c.loop-back-test.true)) (omega (arith, c.loop-back-test.true)) c.index-lines-lines.is (before years touches) (more years touches);
    })

pub returns-clause-ranges : goal.returns-clause-ranges
returns-clause-ranges g c =
    let from_fits : FitsSigned w64 c.args.from = c.ranges.from in
    let to_fits : FitsSigned w64 c.args.to = c.ranges.to in
    let lines = c.as_slice-lines.result.now in
    let told = simp to_z-of_z at c.loop-back.invariant.told in
    let ranges = c.loop-back.ranges in
    written_back ranges.len ranges.items c.reverse.new.self (ap length (sym c.as_mut_slice.ensures.value) ∙ c.as_mut_slice.ensures.len) (c.reverse.ensures.len ∙ ap length c.as_mut_slice.ensures.value)
    ∙ all_lines_told c.args.from c.args.to c.args.zone.now lines (length lines - c.loop-back.back) ranges.items c.reverse.new.self c.as_slice-lines.ensures (omega (arith, c.loop-back-test.false)) told (c.reverse.ensures.after ∙ ap reverse c.as_mut_slice.ensures.value)
