use Rattle.pin_core.proofs.Claims.{claims_keep}
use Rattle.pin_core.proofs.step_laws.a_claim_keeps_states_lawful.Goals as goal

pub returns : goal.returns
returns c = claims_keep
