use Rattle.tz_specs.proofs.LeapLemmas.{utc_count_never_falls}
use Rattle.tz_specs.proofs.leap_laws.utc_counts_never_fall.Goals as goal

pub returns : goal.returns
returns c = utc_count_never_falls
