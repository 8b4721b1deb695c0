use Rattle.tz_specs.proofs.clock_laws.occurrences_come_on_their_clocks.Goals as goal
use Rattle.tz_specs.proofs.UntilTimeLemmas.{comes-universal, comes-standard, comes-wall}

pub returns : goal.returns
returns c = record { universal = comes-universal; standard = comes-standard; wall = comes-wall }
