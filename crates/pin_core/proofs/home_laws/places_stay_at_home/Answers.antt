use Rattle.pin_core.specs.Lawful.{Passes, JournalPasses}
use Rattle.pin_core.proofs.AtHome.{load_home, exchange_home, miss_home, erase_home, give_home, split_home, join_home}
use Rattle.pin_core.proofs.home_laws.places_stay_at_home.Goals as goal

pub returns : goal.returns
returns c = record {
  load = λ a. load_home (Passes a);
  exchange = λ a. exchange_home (Passes a);
  miss = λ a. miss_home (Passes a);
  erase = λ a b. erase_home (Passes a) (Passes b);
  give = λ a. give_home (Passes a);
  split = λ a. split_home (Passes a);
  join = λ a. join_home (Passes a);
}
