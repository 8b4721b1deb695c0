use Rattle.std.proofs.Common.{◌-◌}
use Rattle.rule_rows.proofs.InOrder.{Puts}
use Rattle.rule_rows.proofs.listing.put_rule.Given as goal

abbrev pub invariant-loop-back : goal.invariant-loop-back
invariant-loop-back l = Puts l.rule (19_997 - l.back) l.back l.initial.list.items l.list.items
