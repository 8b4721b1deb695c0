use Rattle.std.proofs.Common.{◌≡◌, ◌++◌, take, None}
use Rattle.std.specs.List.{flat_map}
use Rattle.tz_tzif.specs.Designations.{indices_in}
use Rattle.tz_tzif.specs.File.{type_octets}
use Rattle.tz_tzif.specs.Refusal.{first_far}
use Rattle.tz_tzif.proofs.octets.put_types.Given as goal

abbrev pub invariant-loop-local_type : goal.invariant-loop-local_type
invariant-loop-local_type l =
    (l.file.items ≡ l.fn.file.items ++ flat_map (type_octets l.designations) (take l.local_type-index l.types)) × (first_far (indices_in l.designations (take l.local_type-index l.types)) ≡ None)
