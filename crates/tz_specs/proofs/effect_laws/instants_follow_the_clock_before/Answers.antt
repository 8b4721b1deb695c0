use Rattle.tz_specs.proofs.effect_laws.instants_follow_the_clock_before.Goals as goal
use Rattle.tz_specs.proofs.EffectLemmas.{comes_at_place, place_comes_at, comes_somewhen, comes_once, comes_near}

pub returns : goal.returns
returns c = record {
  number = λ set stdoff place occurrence instant here. (comes_at_place set stdoff place occurrence instant here, place_comes_at set stdoff place occurrence instant here);
  somewhen = comes_somewhen;
  once = comes_once;
  near = comes_near;
}
