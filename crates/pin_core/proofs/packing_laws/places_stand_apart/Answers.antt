use Rattle.pin_core.proofs.Packing.{apart, before_book}
use Rattle.pin_core.proofs.packing_laws.places_stand_apart.Goals as goal

pub returns : goal.returns
returns c = record { apart = apart; book = before_book }
