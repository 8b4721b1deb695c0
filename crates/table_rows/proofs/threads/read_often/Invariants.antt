use Rattle.std.proofs.Common.{◌≡◌, []}
use Rattle.pin_table.specs.Reader.{reader_view}
use Rattle.table_rows.proofs.threads.read_often.Given as goal

abbrev pub invariant-loop : goal.invariant-loop
invariant-loop l = ((reader_view l.reader).entries ≡ []) × (l.reader.table.now ≡ l.initial.reader.table.now)
