use Rattle.tz_specs.proofs.LeapLemmas.{shared_time}
use Rattle.tz_specs.proofs.leap_laws.shared_counts_go_to_the_last_time.Goals as goal

pub returns : goal.returns
returns c = shared_time
