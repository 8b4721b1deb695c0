use Rattle.tz_specs.proofs.around_laws.range_around_an_instant.Goals as goal
use Rattle.tz_specs.proofs.AroundLemmas.{range_around, in_force_around}

pub returns : goal.returns
returns c = record { range = range_around; in_force = in_force_around }
