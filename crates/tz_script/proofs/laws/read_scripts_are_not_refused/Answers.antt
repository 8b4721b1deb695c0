use Rattle.tz_script.proofs.ScriptLaws.{not_both}
use Rattle.tz_script.proofs.laws.read_scripts_are_not_refused.Goals as goal

pub returns : goal.returns
returns c = not_both
