use Rattle.std.proofs.Common.{◌≡◌, ◌*◌, ◌≤◌, length, take}
use Rattle.std.specs.List.{sum_by}
use Rattle.tz_types.specs.declared.rule_set.RuleSet.{RuleSet}
use Rattle.tz_types.specs.declared.limit.TheConstants.{MOST_RULES}
use Rattle.tz_cli.proofs.line.rule_count.Given as goal

abbrev pub invariant-loop-set : goal.invariant-loop-set
invariant-loop-set l = record {
  count : l.count ≡ sum_by (λ (set : RuleSet). length set.rules) (take l.set-index l.set-items);
  bound : l.count ≤ MOST_RULES * l.set-index;
}
