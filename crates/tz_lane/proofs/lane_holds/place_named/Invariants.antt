use Rattle.std.proofs.Common.{◌≡◌, ℕ, ◌<◌, false, get_or}
use Rattle.std.specs.Prelude.{None}
use Rattle.tz_lane.specs.HoldPlaces.{is_named}
use Rattle.tz_lane.proofs.lane_holds.place_named.Given as goal

abbrev pub invariant-loop-at : goal.invariant-loop-at
invariant-loop-at l = (k : ℕ) → k < l.at → is_named l.name (get_or l.places k None) ≡ false
