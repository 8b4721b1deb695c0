use Rattle.tz_batch.proofs.OutcomeTexts.{journal_settled}
use Rattle.tz_batch.proofs.laws.texts_settle_journals.Goals as goal

pub returns : goal.returns
returns c = journal_settled
