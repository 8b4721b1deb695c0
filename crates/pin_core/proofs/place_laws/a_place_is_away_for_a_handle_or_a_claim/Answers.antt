use Rattle.pin_core.proofs.Places.{away_iff}
use Rattle.pin_core.proofs.place_laws.a_place_is_away_for_a_handle_or_a_claim.Goals as goal

pub returns : goal.returns
returns c = away_iff
