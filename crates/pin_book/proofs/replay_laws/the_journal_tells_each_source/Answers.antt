use Rattle.pin_book.proofs.SourceLemmas.{listed_source, new_source, source_stays}
use Rattle.pin_book.proofs.replay_laws.the_journal_tells_each_source.Goals as goal

pub returns : goal.returns
returns c = record { listed = listed_source; pushed = new_source; stays = source_stays }
