use Rattle.tz_batch.proofs.RunTexts.{outcome_settled}
use Rattle.tz_batch.proofs.laws.texts_settle_outcomes.Goals as goal

pub returns : goal.returns
returns c = outcome_settled
