use Rattle.std.proofs.Common.{◌≤◌, ◌+◌, pos, ◌+ℤ◌}
use Rattle.tz_rules.proofs.AfterMark.{NoneBelow}
use Rattle.tz_rules.proofs.next_occurrence.first_of_rule.Given as goal

abbrev pub invariant-loop-on : goal.invariant-loop-on
invariant-loop-on g l =
    record {
      none_below : NoneBelow l.rule l.through (l.first +ℤ pos l.on) l.mark;
      steps : l.steps ≤ l.fn.steps + l.on;
    }
