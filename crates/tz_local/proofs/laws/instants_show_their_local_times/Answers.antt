use Rattle.tz_local.proofs.ClockLemmas.{chosen_shown, earliest_first, latest_last}
use Rattle.tz_local.proofs.laws.instants_show_their_local_times.Goals as goal

pub returns : goal.returns
returns c = record { shown = chosen_shown; earliest = earliest_first; latest = latest_last }
