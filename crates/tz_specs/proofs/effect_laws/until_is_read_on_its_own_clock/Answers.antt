use Rattle.tz_specs.proofs.effect_laws.until_is_read_on_its_own_clock.Goals as goal
use Rattle.tz_specs.proofs.UntilLemmas.{until_under, until_before_first, until_cases}

pub returns : goal.returns
returns c = record { under = until_under; before = until_before_first; always = until_cases }
