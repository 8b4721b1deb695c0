use Rattle.std.proofs.Common.{◌≡◌, ◌+◌, ◌≤◌, length}
use Rattle.tz_specs.specs.Line.{lines_of}
use Rattle.tz_specs.specs.LeapText.{leap_contents_after, leap_contents_of}
use Rattle.tz_lines.specs.LeapContents.{contents_meant}
use Rattle.tz_lines.proofs.leap_table.take_lines.Given as goal

-- what the text gives is what the lines so far gave and what the lines that are left give
abbrev pub invariant-loop-rest : goal.invariant-loop-rest
invariant-loop-rest l =
    record {
      same : leap_contents_after (contents_meant l.contents) l.number (lines_of l.rest) ≡ leap_contents_of l.text;
      within : l.number + length l.rest ≤ 1 + length l.text;
    }

abbrev pub decreases-loop-rest : goal.decreases-loop-rest
decreases-loop-rest l = length l.rest
