use Rattle.tz_specs.proofs.occurrence_laws.precedes_is_an_order.Goals as goal
use Rattle.tz_specs.proofs.OrderLemmas.{precedes_asym, precedes_trans}

pub returns : goal.returns
returns c = record { one_way = precedes_asym; handed_on = precedes_trans }
