use Rattle.pin_core.specs.Lawful.{Passes, JournalPasses}
use Rattle.pin_core.proofs.AtHome.{exchange_book, store_book, give_book}
use Rattle.pin_core.proofs.home_laws.the_book_comes_home.Goals as goal

pub returns : goal.returns
returns c = record {
  load = λ a s id v home. home;
  pin = λ a s id v home. home;
  take = λ a s id place v e home. home;
  exchange = λ b. exchange_book (JournalPasses b);
  claim = λ a s id slot v home. (home, home);
  store = λ b. store_book (JournalPasses b);
  give = λ b. give_book (JournalPasses b);
  split = λ a s id number writes v home. home;
  join = λ a s id other v w home. home;
}
