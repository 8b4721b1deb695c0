use Rattle.std.proofs.Common.{◌≤◌, ◌+◌, pos, ◌-ℤ◌}
use Rattle.tz_rules.proofs.BeforeMark.{NoneAbove}
use Rattle.tz_rules.proofs.previous_occurrence.last_of_rule.Given as goal

abbrev pub invariant-loop-back : goal.invariant-loop-back
invariant-loop-back g l =
    record {
      none_above : NoneAbove l.rule l.since (l.last -ℤ pos l.back) l.mark;
      steps : l.steps ≤ l.fn.steps + l.back;
    }
