use Rattle.std.proofs.Common.{◌≡◌, None, replicate}
use Rattle.tz_windows.proofs.cells.Cells.new.Given as goal

abbrev pub invariant-loop : goal.invariant-loop
invariant-loop l = l.windows.items ≡ replicate l.counter None
