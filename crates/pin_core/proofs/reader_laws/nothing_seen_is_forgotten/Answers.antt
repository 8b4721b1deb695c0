use Rattle.pin_core.proofs.Seen.{journal_goes_on, seen_grows}
use Rattle.pin_core.proofs.reader_laws.nothing_seen_is_forgotten.Goals as goal

pub returns : goal.returns
returns c = record {
  journal = journal_goes_on;
  seen = λ s t id v u h move. seen_grows s t h move id v u;
}
