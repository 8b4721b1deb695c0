use Rattle.std.proofs.Common.{◌≡◌, ℕ, List, ◌++◌, drop}
use Rattle.std.specs.List.{slice_range}
use Rattle.tz_specs.specs.Field.{fields_from, Quoted}
use Rattle.tz_text.proofs.cut.scan.quote_end.Given as goal

abbrev pub invariant-loop-end : goal.invariant-loop-end
invariant-loop-end l =
    (field : List ℕ)
    → fields_from Quoted field (drop l.from l.line)
    ≡ fields_from Quoted (field ++ slice_range l.line l.from l.end) (drop l.end l.line)
