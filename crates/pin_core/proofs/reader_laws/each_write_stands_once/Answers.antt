use Rattle.pin_core.proofs.Readers.{once, own_writes}
use Rattle.pin_core.proofs.reader_laws.each_write_stands_once.Goals as goal

pub returns : goal.returns
returns c = record { once = once; own = own_writes }
