use Rattle.pin_core.specs.Lawful.{Passes, JournalPasses}
use Rattle.pin_core.proofs.AtHome.{take_home, push_home}
use Rattle.pin_core.proofs.home_laws.places_come_home.Goals as goal

pub returns : goal.returns
returns c = record { take = λ a b. take_home (Passes a) (Passes b); push = λ a b. push_home (Passes a) (Passes b) }
