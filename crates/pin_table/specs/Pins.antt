-- What a call that pins or releases leaves.
use Rattle.std.specs.Prelude.{◌≡◌, ℕ, ◌+◌, ◌≤◌, ◌<◌, Some, List, [], ◌∷◌, ◌++◌, length, slice_get}
use Rattle.pin_book.specs.declared.payload.Payload.{Ghosts}
use Rattle.pin_book.specs.declared.write.Write.{Write}
use Rattle.pin_book.specs.Replay.{kept_number}
use Rattle.pin_core.specs.declared.view.View.{View}
use Rattle.pin_core.specs.Step.{loaded, unpinned}
use Rattle.pin_table.specs.declared.answers.Released.{Released}
use Rattle.pin_table.specs.declared.reader.Reader.{Reader}
use Rattle.pin_table.specs.Handles.{Handle, pin_of, MadeBy}
use Rattle.pin_table.specs.Reader.{reader_view, seen, SeesMore}
use Rattle.pin_table.specs.Table.{plan}

-- what a reader knows once it has this handle more, after so many pins that missed, each with a load of its own
abbrev pub with_handle : {P : Type 0} → List Write → ℕ → Handle P → View → View
with_handle journal misses handle v =
    record v { seen = journal; entries = v.entries ++ pin_of handle ∷ []; loads = v.loads + misses + 1; pins = v.pins + misses + 1 }

module _ {P H : Type 0} where
  module _ (home : P → H) (source : P → ℕ) where
    -- The reader has a new handle, on the front at the position that it has seen then. It has loaded the front word once,
    -- and once more for each pin that missed. Each miss showed it a later position, so there were no more than the writes
    -- that it has seen since.
    pub record PinsFront {meanings : Ghosts P H} (reader reader' : Reader P H meanings) (handle : Handle P) : Type 0 where
      pub misses : ℕ
      pub more : SeesMore reader reader'
      pub few : length (seen reader) + misses ≤ length (seen reader')
      pub view : reader_view reader' ≡ with_handle (seen reader') misses handle (reader_view reader)
      pub position : handle.position ≡ length (seen reader')
      pub made : MadeBy home source (plan reader'.table.now) (reader_view reader') handle

    -- the same by one pin and without a load: the front is the one that the reader had seen last
    pub record PinsAtOnce {meanings : Ghosts P H} (reader reader' : Reader P H meanings) (handle : Handle P) : Type 0 where
      pub table : reader'.table.now ≡ reader.table.now
      pub view : reader_view reader' ≡ record (reader_view reader) { entries = (reader_view reader).entries ++ pin_of handle ∷ []; pins = (reader_view reader).pins + 1 }
      pub position : handle.position ≡ length (seen reader)
      pub made : MadeBy home source (plan reader'.table.now) (reader_view reader') handle

  -- The reader has added a pin and taken it off again, and has seen more writes.
  pub record Misses {meanings : Ghosts P H} (reader reader' : Reader P H meanings) : Type 0 where
    pub more : SeesMore reader reader'
    pub later : length (seen reader) < length (seen reader')
    pub view : reader_view reader' ≡ record (loaded (seen reader') (reader_view reader)) { pins = (reader_view reader).pins + 1 }

  -- The reader has spent the handle, whose slot's word showed the handle's number. It has loaded the front word, and after
  -- all that it has seen then the slot keeps that number.
  pub record Releases {meanings : Ghosts P H} (reader reader' : Reader P H meanings) (handle : Handle P) (released : Released) : Type 0 where
    pub at : ℕ
    pub there : slice_get (reader_view reader).entries at ≡ Some (pin_of handle)
    pub more : SeesMore reader reader'
    pub view : reader_view reader' ≡ unpinned at (loaded (seen reader') (reader_view reader))
    pub number : released.number ≡ handle.number
    pub slot : released.slot ≡ handle.slot
    pub w : released.w ≡ length (seen reader')
    pub kept : kept_number (plan reader.table.now).slots (seen reader') handle.slot ≡ handle.number
