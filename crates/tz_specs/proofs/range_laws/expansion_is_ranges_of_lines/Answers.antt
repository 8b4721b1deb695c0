use Rattle.tz_specs.specs.Expansion.{full_expansion}
use Rattle.tz_specs.proofs.range_laws.expansion_is_ranges_of_lines.Goals as goal
use Rattle.tz_specs.proofs.ListLemmas.{In-from_Contains, Contains-from_In}
use Rattle.tz_specs.proofs.RangeLemmas.{In-ranges, In-ranges_back, In-expansion, In-expansion_back, chain_takes_time}

pub returns : goal.returns
returns c = λ a b periods range chain. (
  λ has.
      let there = In-expansion_back periods range (In-from_Contains (full_expansion periods) range has) in
      (there.0, Contains-from_In periods there.0 there.1, In-ranges_back there.0 range (chain_takes_time a b periods there.0 chain there.1) there.2),
  λ is.
      let here = In-from_Contains periods is.0 is.1 in
      Contains-from_In (full_expansion periods) range (In-expansion periods is.0 range here (In-ranges is.0 range (chain_takes_time a b periods is.0 chain here) is.2)),
)
