use Rattle.tz_script.proofs.HoldsKept.{contents_keep_holds, script_keeps_holds}
use Rattle.tz_script.proofs.laws.read_scripts_keep_holds.Goals as goal

pub returns-clause-contents : goal.returns-clause-contents
returns-clause-contents c = contents_keep_holds

pub returns-clause-scripts : goal.returns-clause-scripts
returns-clause-scripts c = script_keeps_holds
