use Rattle.tz_specs.proofs.LeapLemmas.{utc_count_rises}
use Rattle.tz_specs.proofs.leap_laws.utc_counts_rise_where_none_is_skipped.Goals as goal

pub returns : goal.returns
returns c = utc_count_rises
