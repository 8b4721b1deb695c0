use Rattle.std.proofs.Common.{length, ◌-◌, ◌≡◌, ℕ, List, ◌++◌, ◌<◌, ◌≤◌, drop}
use Rattle.std.specs.List.{slice_range}
use Rattle.tz_specs.specs.Field.{fields_from, Inside}
use Rattle.tz_text.proofs.cut.scan.plain_end.Given as goal

abbrev pub invariant-loop-end : goal.invariant-loop-end
invariant-loop-end l = record {
  onwards : l.from < l.end;
  within : l.end ≤ length l.line;
  goes_on :
      (field : List ℕ)
      → fields_from Inside field (drop l.from l.line)
      ≡ fields_from Inside (field ++ slice_range l.line l.from l.end) (drop l.end l.line);
}

abbrev pub decreases-loop-end : goal.decreases-loop-end
decreases-loop-end l = length l.line - l.end
