use Rattle.std.proofs.Common.{◌≡◌, map, drop}
use Rattle.tz_specs.specs.Expansion.{first_instant}
use Rattle.tz_specs.specs.Written.{written_line}
use Rattle.tz_specs.specs.Whole.{late_lines}
use Rattle.tz_database.specs.LeastFault.{told_with}
use Rattle.tz_database.proofs.late_line.tell_late_lines_of.Given as goal

-- the least, when the lines that are left and end too soon are told too
abbrev pub invariant-loop-line : goal.invariant-loop-line
invariant-loop-line l =
    told_with l.told.least (late_lines l.parts.sets l.start (map (written_line l.parts.names) (drop l.line-index l.lines))) ≡ told_with l.fn.told.least (late_lines l.parts.sets first_instant (map (written_line l.parts.names) l.lines))
