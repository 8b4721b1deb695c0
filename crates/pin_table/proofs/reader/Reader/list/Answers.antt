use Rattle.std.proofs.Common.{refl, ◌∙◌}
use Rattle.pin_table.specs.Reader.{reader_view}
use Rattle.pin_table.specs.Table.{plan}
use Rattle.pin_table.proofs.WaitLemmas.{not_yet, once_more}
use Rattle.pin_table.proofs.reader.Reader.list.Goals as goal

pub loop-init : goal.loop-init
loop-init g c = ((tt, tt), not_yet (reader_view c.args.self.now), refl, refl)

pub loop-preserved : goal.loop-preserved
loop-preserved g c = let inv = c.loop.invariant in (
  (tt, tt),
  once_more (plan c.loop.self.table.now) c.loop.self.number _ (reader_view c.args.self.now) (reader_view c.loop.self) (reader_view c.try_list.new.self) inv.1 c.in-Err.ensures.busy,
  c.try_list.ensures.table ∙ inv.2,
  c.try_list.ensures.number ∙ inv.3,
)
