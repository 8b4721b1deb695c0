use Rattle.std.proofs.Common.{◌≡◌}
use Rattle.pin_table.specs.Reader.{reader_view}
use Rattle.pin_table.specs.Table.{plan}
use Rattle.tz_lane.proofs.Underway.{Underway}
use Rattle.tz_lane.proofs.lane.serve_all.Given as goal

abbrev pub invariant-loop-operation : goal.invariant-loop-operation
invariant-loop-operation g l =
    Underway (plan l.initial.reader.table.now) l.tzdb.sources l.initial.reader.number l.lane l.round l.operations (reader_view l.initial.reader) l.operation-index l.replies.items (reader_view l.reader) l.holds
    × (l.reader.table.now ≡ l.initial.reader.table.now) × (l.reader.number ≡ l.initial.reader.number)
