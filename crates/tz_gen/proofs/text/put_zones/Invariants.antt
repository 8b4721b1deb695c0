use Rattle.std.proofs.Common.{◌≡◌, ◌++◌, map}
use Rattle.std.specs.List.{range_with_len}
use Rattle.tz_gen.specs.Generated.{bytes_of_lines, zone_record}
use Rattle.tz_gen.proofs.text.put_zones.Given as goal

abbrev pub invariant-loop-place : goal.invariant-loop-place
invariant-loop-place l = l.out.items ≡ l.initial.out.items ++ bytes_of_lines (map zone_record (range_with_len 0 l.place))
