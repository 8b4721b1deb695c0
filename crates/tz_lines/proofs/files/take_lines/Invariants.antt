use Rattle.std.proofs.Common.{◌≡◌, ◌+◌, ◌<◌, ◌≤◌, ◌==◌, false, length, IsTrue}
use Rattle.std.specs.List.{list_any}
use Rattle.tz_specs.specs.Line.{lines_of}
use Rattle.tz_specs.specs.Contents.{contents_after}
use Rattle.tz_lines.specs.Gathered.{contents_gathered}
use Rattle.tz_lines.specs.RecordOrder.{are_before}
use Rattle.tz_lines.proofs.files.take_lines.Given as goal

-- what the file gives is what the lines so far gave and what the lines that are left give
abbrev pub invariant-loop-rest : goal.invariant-loop-rest
invariant-loop-rest l =
    record {
      same : contents_after (contents_gathered l.gathered) l.next (lines_of l.rest) ≡ contents_after (contents_gathered l.fn.gathered) l.number (lines_of l.text);
      count : l.next + length (lines_of l.rest) ≡ l.number + length (lines_of l.text);
      before : IsTrue (are_before l.next (contents_gathered l.gathered).sets);
      names : length l.gathered.names.labels.items < l.next;
      within : l.next + length l.rest ≤ l.number + length l.text;
      clean : l.nuls ≡ false → list_any (λ byte. byte == 0) l.rest ≡ false;
    }

abbrev pub decreases-loop-rest : goal.decreases-loop-rest
decreases-loop-rest l = length l.rest
