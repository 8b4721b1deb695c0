use Rattle.std.proofs.Common.{◌≡◌, map, take}
use Rattle.tz_lines.specs.LeapContents.{entry_meant}
use Rattle.tz_lines.proofs.leap_table.entries.Given as goal

abbrev pub invariant-loop-leap : goal.invariant-loop-leap
invariant-loop-leap l = l.entries.items ≡ map entry_meant (take l.leap-index l.leaps)
