use Rattle.pin_core.proofs.Floors.{floor_stays, floor_moves}
use Rattle.pin_core.proofs.reader_laws.the_floor_moves_under_no_reader.Goals as goal

pub returns : goal.returns
returns c = record { stays = floor_stays; moves = floor_moves }
