use Rattle.std.proofs.Common.{◌≡◌, length}
use Rattle.tz_specs.specs.Line.{lines_of}
use Rattle.tz_script.specs.Script.{are_blank}
use Rattle.tz_script.proofs.reader.are_blank.Given as goal

-- the lines so far have no word
abbrev pub invariant-loop-rest : goal.invariant-loop-rest
invariant-loop-rest l = are_blank (lines_of l.rest) ≡ are_blank (lines_of l.text)

abbrev pub decreases-loop-rest : goal.decreases-loop-rest
decreases-loop-rest l = length l.rest
