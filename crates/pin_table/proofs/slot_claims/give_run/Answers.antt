use Rattle.std.proofs.Common.{◌∙◌, ap, drop}
use Rattle.std.proofs.Math.Seq.{drop-drop}
use Rattle.pin_table.proofs.slot_claims.give_run.Goals as goal

pub loop-preserved : goal.loop-preserved
loop-preserved c = c.give.ensures ∙ (ap (drop 1) c.loop.invariant ∙ drop-drop 1 c.loop.counter c.args.carried.now)
