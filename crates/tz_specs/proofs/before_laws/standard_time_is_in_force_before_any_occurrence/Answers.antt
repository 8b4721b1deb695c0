use Rattle.tz_specs.proofs.before_laws.standard_time_is_in_force_before_any_occurrence.Goals as goal
use Rattle.tz_specs.proofs.EffectLemmas.{letters_of_first, no_letters as without_letters}
use Rattle.tz_specs.proofs.BeforeLemmas.{first_standard_cases, first_standard_once, before_any, before_at}

pub returns : goal.returns
returns c = record {
  letters = letters_of_first;
  no_letters = without_letters;
  always = first_standard_cases;
  once = first_standard_once;
  number = before_any;
  instant = before_at;
}
