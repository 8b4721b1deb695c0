use Rattle.pin_core.proofs.Places.{claimed_home, pushed_home}
use Rattle.pin_core.proofs.place_laws.a_claimed_slot_has_all_its_places.Goals as goal

pub returns : goal.returns
returns c = record { claimed = claimed_home; pushed = pushed_home }
