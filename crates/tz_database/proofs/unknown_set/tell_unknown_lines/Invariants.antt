use Rattle.std.proofs.Common.{◌≡◌, map, drop}
use Rattle.std.specs.List.{filter_map}
use Rattle.tz_specs.specs.Written.{written_line}
use Rattle.tz_specs.specs.Whole.{unknown_rule}
use Rattle.tz_database.specs.LeastFault.{told_with}
use Rattle.tz_database.proofs.unknown_set.tell_unknown_lines.Given as goal

-- the least, when the faults of the lines that are left are told too
abbrev pub invariant-loop-line : goal.invariant-loop-line
invariant-loop-line l =
    told_with l.told.least (filter_map (unknown_rule l.parts.sets) (map (written_line l.parts.names) (drop l.line-index l.lines))) ≡ told_with l.fn.told.least (filter_map (unknown_rule l.parts.sets) (map (written_line l.parts.names) l.lines))
