use Rattle.pin_core.proofs.Readers.{part_of_journal, part_of_longer}
use Rattle.pin_core.proofs.reader_laws.seen_journals_are_parts_of_one.Goals as goal

pub returns : goal.returns
returns c = record { journal = part_of_journal; one = part_of_longer }
