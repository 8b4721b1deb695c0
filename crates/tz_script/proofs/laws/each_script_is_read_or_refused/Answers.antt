use Rattle.tz_script.proofs.ScriptLaws.{read_or_refused}
use Rattle.tz_script.proofs.laws.each_script_is_read_or_refused.Goals as goal

pub returns : goal.returns
returns c = read_or_refused
