use Rattle.std.proofs.Common.{◌≤◌, ◌+◌, ◌-◌, ◌*◌, length}
use Rattle.tz_rules.specs.Search.{IsLastFrom}
use Rattle.tz_rules.proofs.previous_occurrence.last_before_mark.Given as goal

abbrev pub invariant-loop-back : goal.invariant-loop-back
invariant-loop-back g l =
    record {
      so_far : IsLastFrom l.set l.mark (length l.set.rules - l.back) l.last;
      steps : l.steps ≤ l.fn.steps + 3 * l.back;
    }
