use Rattle.tz_script.proofs.HoldsKept.{script_keeps_sources}
use Rattle.tz_script.proofs.laws.read_scripts_keep_sources.Goals as goal

pub returns : goal.returns
returns c = script_keeps_sources
