use Rattle.std.proofs.Common.{arith}
use Rattle.std.proofs.lemmas.Int.{ints}
use Rattle.tz_moves.proofs.laws.nearest_moves_are_one.Goals as goal

pub returns-clause-next : goal.returns-clause-next
returns-clause-next c = λ zone t one other first second.
    omega (arith, ints, first.least other second.is_move second.later, second.least one first.is_move first.later)

pub returns-clause-previous : goal.returns-clause-previous
returns-clause-previous c = λ zone t one other first second.
    omega (arith, ints, first.greatest other second.is_move second.not_later, second.greatest one first.is_move first.not_later)
