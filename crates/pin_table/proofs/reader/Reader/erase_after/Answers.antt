use Rattle.std.proofs.Common.{refl, ◌∙◌}
use Rattle.pin_table.specs.Reader.{reader_view}
use Rattle.pin_table.specs.Table.{plan}
use Rattle.pin_table.proofs.WaitLemmas.{not_yet, once_more}
use Rattle.pin_table.proofs.reader.Reader.erase_after.Goals as goal

pub loop-init : goal.loop-init
loop-init g c = ((tt, tt), not_yet (reader_view c.args.self.now), refl, refl)

pub loop-preserved : goal.loop-preserved
loop-preserved g c = let inv = c.loop.invariant in let met = rw c.in-Err-Busy.field-0-is at c.in-Err-Busy.ensures.erased in (
  (tt, tt),
  once_more (plan c.loop.self.table.now) c.loop.self.number c.in-Err-Busy.field-0-0 (reader_view c.args.self.now) (reader_view c.loop.self) (reader_view c.try_erase_after.new.self) inv.1 met,
  c.try_erase_after.ensures.table ∙ inv.2,
  c.try_erase_after.ensures.number ∙ inv.3,
)
