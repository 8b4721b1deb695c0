use Rattle.tz_text_laws.proofs.Standing.{stands_for}
use Rattle.tz_text_laws.proofs.links_stand_for_zones_that_they_reach.Goals as goal

pub returns : goal.returns
returns c = stands_for
