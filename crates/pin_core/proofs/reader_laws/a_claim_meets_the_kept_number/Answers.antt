use Rattle.pin_core.proofs.Places.{claim_number}
use Rattle.pin_core.proofs.reader_laws.a_claim_meets_the_kept_number.Goals as goal

pub returns : goal.returns
returns c = claim_number
