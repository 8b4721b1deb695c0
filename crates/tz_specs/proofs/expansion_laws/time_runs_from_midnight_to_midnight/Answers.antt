use Rattle.tz_specs.proofs.expansion_laws.time_runs_from_midnight_to_midnight.Goals as goal
use Rattle.tz_specs.proofs.ExpansionLemmas.{begin_of_time-midnight, end_of_time-midnight}

pub returns : goal.returns
returns c = record { begin = begin_of_time-midnight; end = end_of_time-midnight }
