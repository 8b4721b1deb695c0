use Rattle.tz_specs.proofs.effect_laws.state_is_what_is_in_effect.Goals as goal
use Rattle.tz_specs.proofs.EffectLemmas.{in_effect_from_state, state_from_in_effect, none_from_state, state_from_none, in_effect_cases, in_effect_once}

pub returns : goal.returns
returns c = record {
  number = λ set stdoff t place occurrence here. (in_effect_from_state set stdoff t place occurrence here, state_from_in_effect set stdoff t place occurrence here);
  none = λ set stdoff t. (none_from_state set stdoff t, state_from_none set stdoff t);
  always = in_effect_cases;
  once = in_effect_once;
}
