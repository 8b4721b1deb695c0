-- What is known of a reader.
use Rattle.std.specs.Prelude.{◌≡◌, ◌≤◌, true, List, length, take}
use Rattle.pin_book.specs.declared.payload.Payload.{Ghosts}
use Rattle.pin_book.specs.declared.write.Write.{Write}
use Rattle.pin_book.specs.Replay.{replays}
use Rattle.pin_core.specs.declared.view.View.{View}
use Rattle.pin_core.specs.Step.{loaded}
use Rattle.pin_table.specs.declared.position.Position.{Position}
use Rattle.pin_table.specs.declared.reader.Reader.{Reader}
use Rattle.pin_table.specs.Position.{IsAfter}
use Rattle.pin_table.specs.Table.{plan}

module _ {P H : Type 0} where
  -- what the reader knows of the list
  abbrev pub reader_view : {meanings : Ghosts P H} → Reader P H meanings → View
  reader_view reader = reader.hand.seat.me.0.core

  -- the journal as far as the reader has seen it
  abbrev pub seen : {meanings : Ghosts P H} → Reader P H meanings → List Write
  seen reader = (reader_view reader).seen

  -- The reader has met the journal once more: what it has seen goes on from what it had seen, replays, and is within the
  -- journal's room. Its table is the same.
  pub record SeesMore {meanings : Ghosts P H} (reader reader' : Reader P H meanings) : Type 0 where
    pub grows : take (length (seen reader)) (seen reader') ≡ seen reader
    pub replay : replays (plan reader.table.now).slots (seen reader') ≡ true
    pub within : length (seen reader') ≤ (plan reader.table.now).room
    pub table : reader'.table.now ≡ reader.table.now

  -- The reader has loaded the front word once more, which showed the front after the journal that it has seen then. So
  -- the position is none before those that it had seen. All else that it knows stays.
  pub record Looks {meanings : Ghosts P H} (reader reader' : Reader P H meanings) (position : Position) : Type 0 where
    pub more : SeesMore reader reader'
    pub front : IsAfter reader.table.now.slots (seen reader') position
    pub later : length (seen reader) ≤ position.w
    pub view : reader_view reader' ≡ loaded (seen reader') (reader_view reader)
