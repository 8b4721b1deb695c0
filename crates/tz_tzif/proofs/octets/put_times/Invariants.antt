use Rattle.std.proofs.Common.{◌≡◌, ◌++◌, take}
use Rattle.std.specs.List.{flat_map}
use Rattle.tz_tzif.specs.File.{time_octets}
use Rattle.tz_tzif.proofs.octets.put_times.Given as goal

abbrev pub invariant-loop-range : goal.invariant-loop-range
invariant-loop-range l = l.file.items ≡ l.fn.file.items ++ flat_map time_octets (take l.range-index l.transitions)
