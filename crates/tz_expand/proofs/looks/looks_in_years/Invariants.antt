use Rattle.std.proofs.Common.{◌≡◌, ◌+◌, ◌*◌, ◌≤◌, take}
use Rattle.std.specs.Prelude.{flat_map}
use Rattle.tz_expand.specs.Looks.{looks_of, years_through}
use Rattle.tz_expand.proofs.looks.looks_in_years.Given as goal

abbrev pub invariant-loop-rule : goal.invariant-loop-rule
invariant-loop-rule g l =
    record {
      looks : l.list.items ≡ flat_map (looks_of l.near.first l.near.last) (take l.rule-index l.rules);
      steps : l.steps ≤ l.initial.steps + l.rule-index * years_through l.near.first l.near.last;
    }
