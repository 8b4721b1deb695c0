use Rattle.std.proofs.Common.{◌≤◌, ◌+◌, ◌*◌, length}
use Rattle.tz_rules.specs.InEffect.{IsLastCome}
use Rattle.tz_rules.proofs.in_effect.last_come.Given as goal

abbrev pub invariant-loop-place : goal.invariant-loop-place
invariant-loop-place g l =
    record {
      so_far : IsLastCome l.set l.stdoff l.t l.place l.last;
      steps : l.steps ≤ l.fn.steps + 3 * length l.set.rules + l.place * (3 + 3 * length l.set.rules);
    }
