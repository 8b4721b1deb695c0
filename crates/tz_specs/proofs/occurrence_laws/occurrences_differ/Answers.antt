use Rattle.tz_specs.proofs.occurrence_laws.occurrences_differ.Goals as goal
use Rattle.tz_specs.proofs.OccurrenceLemmas.{same_occurrence, occurrences_total}

pub returns : goal.returns
returns c = record { same = same_occurrence; total = occurrences_total }
