use Rattle.tz_script.specs.Gathered.{script_contents_gathered}
use Rattle.tz_script.proofs.HoldsKept.{contents_keep_holds}
use Rattle.tz_script.proofs.reader.read_whole.Goals as goal

pub script_of-requires : goal.script_of-requires
script_of-requires c = contents_keep_holds c.args.sources c.args.text.now (script_contents_gathered c.in-Ok.gathered) c.in-Ok.ensures.ok
