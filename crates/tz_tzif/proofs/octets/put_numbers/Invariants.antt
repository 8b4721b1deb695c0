use Rattle.std.proofs.Common.{◌≡◌, ◌++◌, take, map}
use Rattle.tz_tzif.specs.Types.{type_of, number_in}
use Rattle.tz_tzif.proofs.octets.put_numbers.Given as goal

abbrev pub invariant-loop-range : goal.invariant-loop-range
invariant-loop-range l =
    l.file.items ≡ l.fn.file.items ++ map (λ range. number_in l.types (type_of range)) (take l.range-index l.transitions)
