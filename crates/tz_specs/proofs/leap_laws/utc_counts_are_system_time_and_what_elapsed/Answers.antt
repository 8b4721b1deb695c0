use Rattle.tz_specs.proofs.LeapLemmas.{count_is_time_and_elapsed}
use Rattle.tz_specs.proofs.leap_laws.utc_counts_are_system_time_and_what_elapsed.Goals as goal

pub returns : goal.returns
returns c = count_is_time_and_elapsed
