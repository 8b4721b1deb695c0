use Rattle.pin_core.proofs.Readers.{one_holder, named, nobody}
use Rattle.pin_core.proofs.reader_laws.the_turn_has_one_holder.Goals as goal

pub returns : goal.returns
returns c = record { one = one_holder; named = named; nobody = nobody }
