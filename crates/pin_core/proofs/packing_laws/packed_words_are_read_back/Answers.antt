use Rattle.pin_core.proofs.Packing.{slot_back, front_back, turn_alone, turn_nobody}
use Rattle.pin_core.proofs.packing_laws.packed_words_are_read_back.Goals as goal

pub returns : goal.returns
returns c = record { slot = slot_back; front = front_back; turn = turn_alone; nobody = turn_nobody }
