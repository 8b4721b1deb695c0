use Rattle.std.proofs.Common.{◌≡◌, ◌≤◌, length, take}
use Rattle.tz_specs.specs.Reads.{without_white_end}
use Rattle.tz_lines.proofs.version.without_white_end.Given as goal

-- what is left has the same bytes before its white space
abbrev pub invariant-loop-end : goal.invariant-loop-end
invariant-loop-end l =
    record {
      within : l.end ≤ length l.bytes;
      same : without_white_end (take l.end l.bytes) ≡ without_white_end l.bytes;
    }

abbrev pub decreases-loop-end : goal.decreases-loop-end
decreases-loop-end l = l.end
