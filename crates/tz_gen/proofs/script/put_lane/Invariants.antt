use Rattle.std.proofs.Common.{◌≡◌, ◌++◌, map}
use Rattle.std.specs.List.{range_with_len}
use Rattle.tz_gen.specs.Generated.{bytes_of_lines, lookup_words}
use Rattle.tz_gen.proofs.script.put_lane.Given as goal

abbrev pub invariant-loop-index : goal.invariant-loop-index
invariant-loop-index l = l.out.items ≡ l.initial.out.items ++ bytes_of_lines (map (lookup_words l.n l.round l.lane) (range_with_len 0 l.index))
