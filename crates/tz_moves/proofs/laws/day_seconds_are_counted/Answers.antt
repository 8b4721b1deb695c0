use Rattle.tz_moves.proofs.CountLemmas.{zone_day_counted}
use Rattle.tz_moves.proofs.laws.day_seconds_are_counted.Goals as goal

pub returns : goal.returns
returns c = zone_day_counted
