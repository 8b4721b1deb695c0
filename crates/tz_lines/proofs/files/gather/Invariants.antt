use Rattle.std.proofs.Common.{◌≡◌, false, ◌+◌, ◌<◌, ◌≤◌, length, drop, take, sum_by, IsTrue}
use Rattle.tz_specs.specs.Contents.{contents_over, contents_of}
use Rattle.tz_lines.specs.Gathered.{contents_gathered}
use Rattle.tz_lines.specs.RecordOrder.{are_before}
use Rattle.tz_lines.proofs.files.gather.Given as goal

-- what all files give is what the files so far gave and what the files that are left give
abbrev pub invariant-loop-text : goal.invariant-loop-text
invariant-loop-text l =
    record {
      same : contents_over (contents_gathered l.gathered) l.number (drop l.text-index l.files) ≡ contents_of l.files;
      ended : l.gathered.begun ≡ false;
      before : IsTrue (are_before l.number (contents_gathered l.gathered).sets);
      names : length l.gathered.names.labels.items < l.number;
      within : l.number ≤ 1 + sum_by length (take l.text-index l.files);
    }
