use Rattle.std.proofs.Common.{◌≡◌}
use Rattle.pin_table.specs.Reader.{reader_view}
use Rattle.pin_table.specs.Turns.{WaitsForTurn}
use Rattle.pin_table.proofs.reader.Reader.push.Given as goal

abbrev pub invariant-loop : goal.invariant-loop
invariant-loop g l = ((goal.iterator-loop g).can_next l.iterator' × (goal.iterator-loop g).is_finite l.iterator') × WaitsForTurn (reader_view l.initial.self) (reader_view l.self) × (l.self.table.now ≡ l.initial.self.table.now) × (l.self.number ≡ l.initial.self.number) × (l.in_hand ≡ l.initial.in_hand)
