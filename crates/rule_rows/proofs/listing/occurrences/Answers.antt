use Rattle.std.proofs.Common.{◌+◌, ◌-◌, length, arith}
use Rattle.rule_rows.proofs.InOrder.{rule_back, all_rules}
use Rattle.rule_rows.proofs.listing.occurrences.Goals as goal

pub loop-back-preserved : goal.loop-back-preserved
loop-back-preserved c =
    let rules = c.as_slice-rules.result.now in
    let back = c.loop-back.back in
    rule_back rules c.index-rules-rules.result (length rules - 1 - back) (length rules - (back + 1)) (length rules - back) c.loop-back.list.items c.put_rule.new.list.items (omega arith) (omega arith) (omega arith) c.index-rules-rules.is c.loop-back.invariant c.in_ok-put_rule.ensures

pub returns : goal.returns
returns c =
    all_rules c.args.set.now c.as_slice-rules.result.now c.loop-back.back c.loop-back.list.items c.as_slice-rules.ensures c.loop-back-test.false c.loop-back.invariant
