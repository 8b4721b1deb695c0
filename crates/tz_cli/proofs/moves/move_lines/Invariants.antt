use Rattle.std.proofs.Common.{◌≡◌, take}
use Rattle.std.specs.List.{flat_map}
use Rattle.tz_cli.specs.Line.{move_line}
use Rattle.tz_cli.proofs.moves.move_lines.Given as goal

abbrev pub invariant-loop-change : goal.invariant-loop-change
invariant-loop-change l = l.text.items ≡ flat_map move_line (take l.change-index l.moves)
