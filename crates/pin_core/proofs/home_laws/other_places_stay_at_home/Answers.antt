use Rattle.pin_core.specs.Lawful.{Passes, JournalPasses}
use Rattle.pin_core.proofs.AtHome.{pin_home, claim_home}
use Rattle.pin_core.proofs.home_laws.other_places_stay_at_home.Goals as goal

pub returns : goal.returns
returns c = record { pin = λ a b. pin_home (Passes a) (Passes b); claim = λ a b. claim_home (Passes a) (Passes b) }
