use Rattle.tz_script.proofs.ScriptLaws.{one_script}
use Rattle.tz_script.proofs.laws.at_most_one_script.Goals as goal

pub returns : goal.returns
returns c = one_script
