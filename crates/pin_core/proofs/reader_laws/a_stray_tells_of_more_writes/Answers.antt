use Rattle.pin_core.proofs.Readers.{stray_tells}
use Rattle.pin_core.proofs.reader_laws.a_stray_tells_of_more_writes.Goals as goal

pub returns : goal.returns
returns c = stray_tells
