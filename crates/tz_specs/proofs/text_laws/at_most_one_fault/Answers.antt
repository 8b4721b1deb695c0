use Rattle.tz_specs.proofs.TextLemmas.{one_fault}
use Rattle.tz_specs.proofs.text_laws.at_most_one_fault.Goals as goal

pub returns : goal.returns
returns c = one_fault
