use Rattle.std.proofs.Common.{◌≡◌, ◌++◌, take, replicate, codes}
use Rattle.std.specs.List.{flat_map}
use Rattle.tz_tzif.specs.File.{count_octets}
use Rattle.tz_tzif.proofs.octets.put_header.Given as goal

abbrev pub invariant-loop-count : goal.invariant-loop-count
invariant-loop-count l =
    l.file.items ≡ (l.fn.file.items ++ (codes "TZif2" ++ replicate 15 0)) ++ flat_map count_octets (take l.count-index l.count-items)
