use Rattle.pin_book.proofs.LawLemmas.{listed_told}
use Rattle.pin_book.proofs.replay_laws.listed_is_pushed_and_not_erased.Goals as goal

pub returns : goal.returns
returns c = listed_told
