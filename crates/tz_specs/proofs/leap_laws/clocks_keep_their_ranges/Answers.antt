use Rattle.tz_specs.proofs.LeapLemmas.{utc_count_in_range, system_time_in_range}
use Rattle.tz_specs.proofs.leap_laws.clocks_keep_their_ranges.Goals as goal

pub returns : goal.returns
returns c = record { utc = utc_count_in_range; system = system_time_in_range }
