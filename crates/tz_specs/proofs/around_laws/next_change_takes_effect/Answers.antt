use Rattle.tz_specs.proofs.around_laws.next_change_takes_effect.Goals as goal
use Rattle.tz_specs.proofs.AroundLemmas.{change_is_later, change_takes_effect}

pub returns : goal.returns
returns c = record { later = change_is_later; effect = change_takes_effect }
