use Rattle.pin_book.proofs.LawLemmas.{erase_low}
use Rattle.pin_book.proofs.replay_laws.front_is_never_erased.Goals as goal

pub returns : goal.returns
returns c = erase_low
