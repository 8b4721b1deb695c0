use Rattle.std.proofs.Common.{◌≡◌, length}
use Rattle.pin_table.specs.Reader.{reader_view}
use Rattle.pin_table.specs.Table.{plan}
use Rattle.tz_lane.specs.Holding.{AreHeld}
use Rattle.tz_lane.proofs.NoneMade.{MakesNone}
use Rattle.tz_lane.proofs.endings.let_all_go.Given as goal

abbrev pub invariant-loop-hold : goal.invariant-loop-hold
invariant-loop-hold l =
    AreHeld (plan l.reader.table.now) (reader_view l.reader) l.holds × MakesNone (reader_view l.fn.reader) (reader_view l.reader) × (l.reader.table.now ≡ l.fn.reader.table.now) × (l.reader.number ≡ l.fn.reader.number)

abbrev pub decreases-loop-hold : goal.decreases-loop-hold
decreases-loop-hold l = length l.holds
