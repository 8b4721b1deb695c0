use Rattle.std.proofs.Common.{arith}
use Rattle.std.proofs.lemmas.Int.{ints}
use Rattle.tz_local.proofs.range.is_shown.Goals as goal

pub returns-then-range-t : goal.returns-then-range-t
returns-then-range-t c = grind (arith, ints)
