use Rattle.tz_script.proofs.ScriptLaws.{one_fault}
use Rattle.tz_script.proofs.laws.at_most_one_script_fault.Goals as goal

pub returns : goal.returns
returns c = one_fault
