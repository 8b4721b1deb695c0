use Rattle.std.proofs.Common.{◌≡◌, ◌++◌, replicate}
use Rattle.std.specs.Arc.{arc_value}
use Rattle.pin_table.specs.declared.cell.Cell.TheVariants.{Empty, Place}
use Rattle.pin_table.specs.Shelf.{full_shelf}
use Rattle.pin_table.proofs.opening.opening_cells.Given as goal

abbrev pub invariant-loop : goal.invariant-loop
invariant-loop g l = l.cells.items ≡ replicate l.counter (Place (full_shelf (arc_value l.first)))

abbrev pub invariant-loop-2 : goal.invariant-loop-2
invariant-loop-2 g l = l.cells.items ≡ replicate l.readers (Place (full_shelf (arc_value l.first))) ++ replicate l.counter Empty
