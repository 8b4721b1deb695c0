use Rattle.pin_table.specs.Reader.{reader_view}
use Rattle.pin_table.specs.Table.{plan}
use Rattle.table_rows.proofs.Turns.{erase_keeps}
use Rattle.table_rows.proofs.threads.erase.Goals as goal

pub release-requires-clause-made : goal.release-requires-clause-made
release-requires-clause-made c κs = let e = c.try_erase_after-erased.ensures in let k = erase_keeps _ _ _ _ _ _ e.erased in let pin = c.in-Ok.ensures.pinned in
    c.a_handle_stays.ensures (plan c.try_erase_after-erased.new.self.table.now) (reader_view c.front.new.self) (reader_view c.try_erase_after-erased.new.self) c.in-Ok.handle
    (rw e.table pin.made) k.grows k.role k.numbers (rw k.entries pin.made.pinned) c.try_erase_after-erased.new.self.handles
