use Rattle.std.proofs.Common.{◌≡◌, ◌+◌, ◌++◌}
use Rattle.tz_expand.specs.Looks.{looks_from}
use Rattle.tz_expand.proofs.looks.put_looks.Given as goal

abbrev pub invariant-loop-ahead : goal.invariant-loop-ahead
invariant-loop-ahead g l =
    record {
      looks : l.list.items ≡ l.initial.list.items ++ looks_from l.rule l.years.first l.ahead;
      steps : l.steps ≡ l.initial.steps + l.ahead;
    }
