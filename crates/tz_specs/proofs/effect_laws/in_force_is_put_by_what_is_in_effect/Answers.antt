use Rattle.tz_specs.proofs.effect_laws.in_force_is_put_by_what_is_in_effect.Goals as goal
use Rattle.tz_specs.proofs.EffectLemmas.{in_force_in_effect, in_force_before, letters_of_first, no_letters as without_letters}

pub returns : goal.returns
returns c = record {
  under = in_force_in_effect;
  before = in_force_before;
  letters = letters_of_first;
  no_letters = without_letters;
}
