use Rattle.pin_book.proofs.ReplayLemmas.{replay_orderly}
use Rattle.pin_book.proofs.LawLemmas.{numbers_in_order}
use Rattle.pin_book.proofs.replay_laws.pushes_are_numbered_in_order.Goals as goal

pub returns : goal.returns
returns c = record {
  numbers = numbers_in_order;
  front = λ slots journal some h. (replay_orderly slots journal some h).front;
}
