use Rattle.tz_local.proofs.ClockLemmas.{never_shown, gap_begins}
use Rattle.tz_local.proofs.laws.gaps_are_jumped_over.Goals as goal

pub returns : goal.returns
returns c = record { hidden = never_shown; begins = gap_begins }
