use Rattle.std.proofs.Common.{◌≡◌, ◌+◌, drop}
use Rattle.tz_specs.specs.Reads.{line_in}
use Rattle.tz_lines.proofs.places.line_in.Given as goal

abbrev pub invariant-loop-text : goal.invariant-loop-text
invariant-loop-text l =
    record {
      same : line_in l.file (drop l.text-index l.files) l.left ≡ line_in 1 l.files l.line;
      number : l.file ≡ l.text-index + 1;
    }
