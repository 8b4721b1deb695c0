-- The book of a table while the reader that has the turn has it in hand.
use Rattle.std.specs.Prelude.{◌≡◌, ℕ, ◌+◌, ◌≤◌, true, List, ◌∷◌, length}
use Rattle.atomic_table.specs.Table.{Me}
use Rattle.pin_book.specs.declared.write.Write.{Write}
use Rattle.pin_book.specs.Book.{Chronicle}
use Rattle.pin_book.specs.Replay.{replays}
use Rattle.pin_book.specs.Sequence.{writes_by}
use Rattle.pin_core.specs.declared.view.View.{View}
use Rattle.pin_core.specs.Step.{got_turn}
use Rattle.pin_core.specs.Packing.{book_place}
use Rattle.pin_table.specs.declared.cell.Cell.{Cell}
use Rattle.pin_table.specs.declared.cell.Cell.TheVariants.{Empty}
use Rattle.pin_table.specs.declared.sitting.Plan.{Plan}
use Rattle.pin_table.specs.declared.sitting.Sitting.{Sitting}
use Rattle.pin_table.specs.Seat.{knowing}
use Rattle.pin_table.specs.Sources.{book_of}
use Rattle.pin_table.specs.Plays.{GoesOn}

module _ {P H : Type 0} (home : P → H) (name_of : H → ℕ → List ℕ) where
  -- The reader has got the turn, and has the book of the whole journal in hand. The book's place is the first that its seat
  -- carries, and is empty.
  pub record HoldsBook (plan : Plan P) (number : ℕ) (m : Me (Cell P H) (Sitting P)) (book : Chronicle) (m' : Me (Cell P H) (Sitting P)) : Type 0 where
    pub journal : List Write
    pub goes_on : GoesOn plan.slots plan.room number m.0.core journal
    pub is : book ≡ book_of name_of (home plan.first) plan.slots plan.room journal
    pub seat : m' ≡ (knowing (got_turn journal m.0.core) m.0, (book_place plan.slots, Empty) ∷ m.1)

  -- The reader has the turn, and the book in hand is that of all that it has seen, which is the whole journal. The reader's
  -- own writes are its own part of it, and the book has room for all that the reader may still write.
  pub record WritesIn (plan : Plan P) (number : ℕ) (v : View) (book : Chronicle) : Type 0 where
    pub turn : v.turn ≡ true
    pub is : book ≡ book_of name_of (home plan.first) plan.slots plan.room v.seen
    pub replay : replays plan.slots v.seen ≡ true
    pub own : writes_by number v.seen ≡ v.own
    pub fits : length v.seen + v.allowance ≤ plan.room
