use Rattle.pin_book.specs.Replay.{state_after}
use Rattle.pin_book.proofs.ReplayLemmas.{erase_asks}
use Rattle.pin_book.proofs.LawLemmas.{gone_is_listed, nothing_between}
use Rattle.pin_book.proofs.replay_laws.erase_takes_the_next.Goals as goal

pub returns : goal.returns
returns c = record {
  listed = λ slots after gone journal some h ok. gone_is_listed (state_after slots journal) after gone (erase_asks (state_after slots journal) after gone ok);
  between = λ slots after gone journal edition some h ok has low. nothing_between (state_after slots journal) after gone edition (erase_asks (state_after slots journal) after gone ok) has low;
}
