use Rattle.std.proofs.Common.{◌≡◌, map, drop}
use Rattle.std.specs.List.{flat_map}
use Rattle.tz_specs.specs.Expansion.{first_instant}
use Rattle.tz_specs.specs.Written.{written_zone}
use Rattle.tz_specs.specs.Whole.{late_lines}
use Rattle.tz_database.specs.LeastFault.{told_with}
use Rattle.tz_database.proofs.late_line.tell_late_lines.Given as goal

-- the least, when the late lines of the zones that are left are told too
abbrev pub invariant-loop-zone : goal.invariant-loop-zone
invariant-loop-zone l =
    told_with l.told.least (flat_map (λ zone. late_lines l.parts.sets first_instant zone.lines) (map (written_zone l.parts.names) (drop l.zone-index l.parts.zones))) ≡ told_with l.fn.told.least (flat_map (λ zone. late_lines l.parts.sets first_instant zone.lines) (map (written_zone l.parts.names) l.parts.zones))
