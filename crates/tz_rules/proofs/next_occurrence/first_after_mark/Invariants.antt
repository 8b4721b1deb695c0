use Rattle.std.proofs.Common.{◌≤◌, ◌+◌, ◌-◌, ◌*◌, length}
use Rattle.tz_rules.specs.Search.{IsFirstFrom}
use Rattle.tz_rules.proofs.next_occurrence.first_after_mark.Given as goal

abbrev pub invariant-loop-back : goal.invariant-loop-back
invariant-loop-back g l =
    record {
      so_far : IsFirstFrom l.set l.mark (length l.set.rules - l.back) l.first;
      steps : l.steps ≤ l.fn.steps + 3 * l.back;
    }
