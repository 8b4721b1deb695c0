use Rattle.std.proofs.Common.{◌<◌, length, arith}
use Rattle.tz_types.specs.declared.limit.TheConstants.{MOST_RULES}
use Rattle.tz_lines.proofs.RuleSets.{still_in_line_order, still_few_rules}
use Rattle.tz_lines.proofs.rule_sets.push_rule.Goals as goal

pub invariant_of-set : goal.invariant_of-set
invariant_of-set c =
    let room : length c.args.set.now.rules < MOST_RULES = omega arith in
    record {
      in_line_order = still_in_line_order c.push.result c.args.set.now.rules c.push.new.self c.args.rule c.push.ensures.ok c.push.ensures.err c.args.set.now.in_line_order c.requires;
      few_enough = still_few_rules c.push.result c.args.set.now.rules c.push.new.self c.args.rule c.push.ensures.ok c.push.ensures.err room;
    }
