use Rattle.pin_book.proofs.LawLemmas.{some_listed, numbers_fall}
use Rattle.pin_book.proofs.replay_laws.listed_numbers_fall.Goals as goal

pub returns : goal.returns
returns c = record { some = some_listed; fall = numbers_fall }
