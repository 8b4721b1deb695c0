use Rattle.tz_specs.proofs.LeapLemmas.{system_time_exists, system_time_once}
use Rattle.tz_specs.proofs.leap_laws.utc_counts_have_one_system_time.Goals as goal

pub returns : goal.returns
returns c = record { some = system_time_exists; once = system_time_once }
