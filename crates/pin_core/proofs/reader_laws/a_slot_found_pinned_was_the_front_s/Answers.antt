use Rattle.pin_core.proofs.Holders.{found_once}
use Rattle.pin_core.proofs.reader_laws.a_slot_found_pinned_was_the_front_s.Goals as goal

pub returns : goal.returns
returns c = found_once
