use Rattle.tz_specs.specs.Occurrence.{occurrences}
use Rattle.tz_specs.proofs.occurrence_laws.occurrences_are_rules_in_their_years.Goals as goal
use Rattle.tz_specs.proofs.ListLemmas.{In-from_Contains, Contains-from_In}
use Rattle.tz_specs.proofs.OccurrenceLemmas.{In-occurrences, In-occurrences_back}

pub returns : goal.returns
returns c = λ set occurrence. (
  λ has. In-occurrences_back set occurrence (In-from_Contains (occurrences set) occurrence has),
  λ is. Contains-from_In (occurrences set) occurrence (In-occurrences set occurrence is),
)
