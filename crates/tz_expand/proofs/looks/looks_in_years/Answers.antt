use Rattle.std.proofs.Common.{length}
use Rattle.tz_expand.specs.Looks.{looks_of, looks_count, years_through}
use Rattle.tz_expand.proofs.LookLemmas.{set_pushed, steps_more, steps_within, few_looks_at}
use Rattle.tz_expand.proofs.looks.looks_in_years.Goals as goal

pub returns-in_err-put_looks-clause-steps : goal.returns-in_err-put_looks-clause-steps
returns-in_err-put_looks-clause-steps g c =
    let near = c.args.near in
    let wide = years_through near.first near.last in
    let more = steps_more c.loop-rule.rule-index wide (looks_count near.first near.last c.rule-item.result) c.args.steps.now c.loop-rule.steps c.put_looks.new.steps c.loop-rule.invariant.steps c.put_looks.ensures.steps (few_looks_at near.first near.last c.rule-item.result c.requires) in
    steps_within c.loop-rule.rule-index (length c.args.set.now.rules) wide c.args.steps.now c.put_looks.new.steps (rw c.as_slice-rules.ensures at c.loop-rule-test.true) more

pub loop-rule-preserved : goal.loop-rule-preserved
loop-rule-preserved g c =
    let near = c.args.near in
    let wide = years_through near.first near.last in
    record {
      looks = set_pushed (looks_of near.first near.last) c.as_slice-rules.result.now c.rule-item.result c.loop-rule.rule-index c.loop-rule.list.items c.put_looks.new.list.items c.loop-rule-test.true c.rule-item.is c.loop-rule.invariant.looks c.in_ok-put_looks.ensures.looks;
      steps = steps_more c.loop-rule.rule-index wide (looks_count near.first near.last c.rule-item.result) c.args.steps.now c.loop-rule.steps c.put_looks.new.steps c.loop-rule.invariant.steps c.put_looks.ensures.steps (few_looks_at near.first near.last c.rule-item.result c.requires);
    }
