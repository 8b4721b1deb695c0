use Rattle.std.proofs.Common.{pos, ◌+ℤ◌}
use Rattle.std.specs.Int.{int_gap}
use Rattle.tz_types.specs.declared.limit.TheConstants.{LONGEST_OFFSET}
use Rattle.tz_moves.specs.Day.{midnight}
use Rattle.tz_moves.proofs.DayLemmas.{IsSummed}
use Rattle.tz_moves.proofs.day.seconds_among.Given as goal

-- how far the walk has come
abbrev pub invariant-loop-range : goal.invariant-loop-range
invariant-loop-range g l = IsSummed l.zone l.day l.range.end l.seconds

abbrev pub decreases-loop-range : goal.decreases-loop-range
decreases-loop-range g l = int_gap l.range.end (midnight (l.day +ℤ pos 1) +ℤ pos LONGEST_OFFSET)
