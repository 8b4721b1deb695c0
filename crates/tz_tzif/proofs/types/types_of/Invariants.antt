use Rattle.std.proofs.Common.{◌≡◌, take}
use Rattle.tz_tzif.specs.Types.{types_of}
use Rattle.tz_tzif.proofs.types.types_of.Given as goal

abbrev pub invariant-loop-range : goal.invariant-loop-range
invariant-loop-range l = l.types.items ≡ types_of (take l.range-index l.ranges)
