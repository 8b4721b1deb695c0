use Rattle.tz_specs.proofs.state_laws.state_holds_at_its_instant.Goals as goal
use Rattle.tz_specs.proofs.StateLemmas.{state_at_own}

pub returns : goal.returns
returns c = state_at_own
