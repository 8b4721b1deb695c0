use Rattle.std.proofs.Common.{◌≡◌, length, map}
use Rattle.tz_database.specs.Stops.{stop_after}
use Rattle.tz_database.proofs.reach.ends_of_ways.Given as goal

-- so many links further as are left, over the stops ahead
abbrev pub invariant-loop-left : goal.invariant-loop-left
invariant-loop-left l =
    map (stop_after l.ahead.items l.left) l.ends.items ≡ map (stop_after l.targets (length l.targets)) l.targets

abbrev pub decreases-loop-left : goal.decreases-loop-left
decreases-loop-left l = l.left
