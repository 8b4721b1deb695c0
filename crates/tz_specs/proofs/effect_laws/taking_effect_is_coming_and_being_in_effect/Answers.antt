use Rattle.tz_specs.proofs.effect_laws.taking_effect_is_coming_and_being_in_effect.Goals as goal
use Rattle.tz_specs.proofs.EffectLemmas.{effect_from_takes, takes_from_effect}

pub returns : goal.returns
returns c = λ set stdoff instant. (effect_from_takes set stdoff instant, λ it. takes_from_effect set stdoff instant it.0 it.1 it.2)
