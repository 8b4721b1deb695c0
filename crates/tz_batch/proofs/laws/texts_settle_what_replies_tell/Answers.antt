use Rattle.tz_batch.proofs.OutcomeTexts.{told_settled}
use Rattle.tz_batch.proofs.laws.texts_settle_what_replies_tell.Goals as goal

pub returns : goal.returns
returns c = told_settled
