use Rattle.std.proofs.Common.{◌≡◌, []}
use Rattle.pin_table.specs.Reader.{reader_view}
use Rattle.table_rows.proofs.threads.write.Given as goal

abbrev pub invariant-loop-before : goal.invariant-loop-before
invariant-loop-before l = ((reader_view l.writer).entries ≡ []) × (l.writer.table.now ≡ l.initial.writer.table.now)
