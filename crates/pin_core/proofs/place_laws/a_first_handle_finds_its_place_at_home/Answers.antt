use Rattle.pin_core.proofs.Places.{first_handle}
use Rattle.pin_core.proofs.place_laws.a_first_handle_finds_its_place_at_home.Goals as goal

pub returns : goal.returns
returns c = first_handle
