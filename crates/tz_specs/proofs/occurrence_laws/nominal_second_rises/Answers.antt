use Rattle.tz_specs.proofs.occurrence_laws.nominal_second_rises.Goals as goal
use Rattle.tz_specs.proofs.DayLemmas.{nominal_near}
use Rattle.tz_specs.proofs.OccurrenceLemmas.{rises_in_rule, apart_in_rule}

pub returns : goal.returns
returns c = record { later = rises_in_rule; apart = apart_in_rule; near = nominal_near }
