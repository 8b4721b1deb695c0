use Rattle.tz_specs.proofs.cover_laws.ranges_stand_in_order.Goals as goal
use Rattle.tz_specs.proofs.CoverLemmas.{covers_each, covers_in_order}

pub returns : goal.returns
returns c = record { inside = covers_each; order = covers_in_order }
