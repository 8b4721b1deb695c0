use Rattle.std.proofs.Common.{◌≡◌, ◌++◌}
use Rattle.std.specs.List.{flat_map, range_with_len}
use Rattle.tz_gen.specs.Generated.{bytes_of_lines, lane_lines}
use Rattle.tz_gen.proofs.script.put_lanes.Given as goal

abbrev pub invariant-loop-before : goal.invariant-loop-before
invariant-loop-before l = l.out.items ≡ l.initial.out.items ++ bytes_of_lines (flat_map (lane_lines l.n l.round) (range_with_len 1 l.before))
