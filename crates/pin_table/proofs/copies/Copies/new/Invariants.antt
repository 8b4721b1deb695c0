use Rattle.std.proofs.Common.{◌≡◌, replicate}
use Rattle.std.specs.Arc.{arc_value}
use Rattle.pin_table.proofs.copies.Copies.new.Given as goal

abbrev pub invariant-loop : goal.invariant-loop
invariant-loop g l = l.shelves.items ≡ replicate l.counter (replicate 8 (arc_value l.version))
