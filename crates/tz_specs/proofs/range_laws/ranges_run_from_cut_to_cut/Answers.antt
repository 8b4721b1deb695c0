use Rattle.tz_specs.specs.Expansion.{ranges_of}
use Rattle.tz_specs.proofs.range_laws.ranges_run_from_cut_to_cut.Goals as goal
use Rattle.tz_specs.proofs.ListLemmas.{In-from_Contains, Contains-from_In}
use Rattle.tz_specs.proofs.RangeLemmas.{In-ranges, In-ranges_back}

pub returns : goal.returns
returns c = λ period range takes. (λ has. In-ranges_back period range takes (In-from_Contains (ranges_of period) range has), λ is. Contains-from_In (ranges_of period) range (In-ranges period range takes is))
