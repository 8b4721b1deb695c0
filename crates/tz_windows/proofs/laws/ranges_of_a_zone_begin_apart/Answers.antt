use Rattle.tz_windows.proofs.FoundLemmas.{begin_apart}
use Rattle.tz_windows.proofs.laws.ranges_of_a_zone_begin_apart.Goals as goal

pub returns : goal.returns
returns c = begin_apart
