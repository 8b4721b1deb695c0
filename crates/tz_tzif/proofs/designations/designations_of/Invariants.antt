use Rattle.std.proofs.Common.{◌≡◌, take}
use Rattle.tz_tzif.specs.Designations.{designations_of}
use Rattle.tz_tzif.proofs.designations.designations_of.Given as goal

abbrev pub invariant-loop-local_type : goal.invariant-loop-local_type
invariant-loop-local_type l = l.designations.items ≡ designations_of (take l.local_type-index l.types)
