use Rattle.tz_script.proofs.HoldsKept.{script_keeps_holds, script_keeps_sources}
use Rattle.tz_script.proofs.reader.read_script.Goals as goal

pub returns-in-Ok-clause-holds : goal.returns-in-Ok-clause-holds
returns-in-Ok-clause-holds c = script_keeps_holds c.args.sources c.args.text.now c.in-Ok.script c.in-Ok.ensures.ok

pub returns-in-Ok-clause-sources : goal.returns-in-Ok-clause-sources
returns-in-Ok-clause-sources c = script_keeps_sources c.args.sources c.args.text.now c.in-Ok.script c.in-Ok.ensures.ok
