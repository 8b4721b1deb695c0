use Rattle.pin_core.proofs.Holders.{own_all, seen_all}
use Rattle.pin_core.proofs.reader_laws.a_main_with_all_numbers_has_all_writes.Goals as goal

pub returns : goal.returns
returns c = record {
  own = λ s id v number h here main all inside. own_all s id v h here main all number inside;
  seen = λ s id v h here main all. seen_all s id v h here main all;
}
