use Rattle.tz_moves.proofs.MoveLemmas.{moved_are_unlike, unlike_are_moved}
use Rattle.tz_moves.proofs.laws.moves_begin_ranges_that_differ.Goals as goal

pub returns : goal.returns
returns c = λ ranges range. (moved_are_unlike ranges range, unlike_are_moved ranges range)
