use Rattle.tz_specs.specs.Expansion.{cuts_of}
use Rattle.tz_specs.proofs.range_laws.cuts_are_where_occurrences_take_effect.Goals as goal
use Rattle.tz_specs.proofs.ListLemmas.{In-from_Contains, Contains-from_In}
use Rattle.tz_specs.proofs.RangeLemmas.{In-cuts, In-cuts_back}

pub returns : goal.returns
returns c = λ period instant. (λ has. In-cuts_back period instant (In-from_Contains (cuts_of period) instant has), λ cut. Contains-from_In (cuts_of period) instant (In-cuts period instant cut))
