use Rattle.std.proofs.Common.{arith}
use Rattle.tz_specs.proofs.state_laws.state_is_last_come.Goals as goal
use Rattle.tz_specs.proofs.StateLemmas.{state_has_come, later_has_not_come, state_is, state_is_none, state_at_bound}

pub returns : goal.returns
returns c = record {
  last = λ instants t place instant there. (λ is. (state_has_come instants t place instant is there, λ later other after there'. later_has_not_come instants t later other (omega arith) there'), λ come. state_is instants t place instant there come.0 come.1);
  none = λ instants t. (λ is place instant there. later_has_not_come instants t place instant (omega arith) there, λ after. state_is_none instants t after);
  bound = state_at_bound;
}
