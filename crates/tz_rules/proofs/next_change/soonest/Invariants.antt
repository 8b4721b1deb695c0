use Rattle.std.proofs.Common.{◌≤◌, ◌+◌, ◌*◌, length}
use Rattle.tz_rules.specs.NextChange.{IsSoonest}
use Rattle.tz_rules.proofs.next_change.soonest.Given as goal

abbrev pub invariant-loop-place : goal.invariant-loop-place
invariant-loop-place g l =
    record {
      so_far : IsSoonest l.set l.stdoff l.window l.place l.soonest;
      steps : l.steps ≤ l.fn.steps + l.place * (3 + 3 * length l.set.rules);
    }
