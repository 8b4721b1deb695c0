use Rattle.tz_specs.proofs.occurrence_laws.occurrences_stand_in_order.Goals as goal
use Rattle.tz_specs.proofs.OccurrenceLemmas.{occurrences_strict, occurrences_places}

pub returns : goal.returns
returns c = record { earlier = occurrences_strict; places = occurrences_places }
