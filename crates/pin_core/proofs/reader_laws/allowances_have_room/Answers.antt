use Rattle.pin_core.proofs.Readers.{room_for}
use Rattle.pin_core.proofs.reader_laws.allowances_have_room.Goals as goal

pub returns : goal.returns
returns c = room_for
