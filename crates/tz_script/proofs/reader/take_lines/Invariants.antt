use Rattle.std.proofs.Common.{◌≡◌, ◌+◌, ◌≤◌, length, IsTrue}
use Rattle.tz_specs.specs.Line.{lines_of}
use Rattle.tz_script.specs.Contents.{no_script_contents}
use Rattle.tz_script.specs.Gathered.{script_contents_gathered}
use Rattle.tz_script.specs.Inside.{all_stand_before}
use Rattle.tz_script.specs.Script.{script_contents_after}
use Rattle.tz_script.proofs.reader.take_lines.Given as goal

-- what the text gives is what the lines so far gave and what the lines that are left give
abbrev pub invariant-loop-rest : goal.invariant-loop-rest
invariant-loop-rest l =
    record {
      same : script_contents_after l.sources (script_contents_gathered l.gathered) l.number (lines_of l.rest) ≡ script_contents_after l.sources no_script_contents 1 (lines_of l.text);
      before : IsTrue (all_stand_before l.number l.gathered.operations);
      within : l.number + length l.rest ≤ 1 + length l.text;
    }

abbrev pub decreases-loop-rest : goal.decreases-loop-rest
decreases-loop-rest l = length l.rest
