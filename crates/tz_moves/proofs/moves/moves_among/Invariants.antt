use Rattle.std.proofs.Common.{◌≡◌, ◌-◌, ◌++◌, drop, map}
use Rattle.tz_moves.specs.Moves.{moved_ranges}
use Rattle.tz_moves.specs.Move.{move_to}
use Rattle.tz_moves.proofs.moves.moves_among.Given as goal

-- the moves so far, and those of the ranges from the one before on, are all
abbrev pub invariant-loop-place : goal.invariant-loop-place
invariant-loop-place l = l.moves.items ++ map move_to (moved_ranges (drop (l.place - 1) l.ranges)) ≡ map move_to (moved_ranges l.ranges)
