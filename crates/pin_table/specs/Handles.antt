-- The handles of a reader: what each is of, and where the copies are that they were taken from.
use Rattle.std.specs.Prelude.{◌≡◌, ℕ, ◌+◌, ◌-◌, ◌/◌, ◌%◌, ◌^◌, ◌<◌, ◌≤◌, Bool, true, false, nat_lt, List, [], ◌∷◌, length, take, All, Contains}
use Rattle.pin_book.specs.declared.limits.TheConstants.{READER_NUMBERS}
use Rattle.pin_book.specs.declared.write.Write.{Write}
use Rattle.pin_book.specs.Replay.{front_slot, front_number, kept_number}
use Rattle.pin_core.specs.declared.entry.Entry.{Entry}
use Rattle.pin_core.specs.declared.view.View.{View}
use Rattle.pin_core.specs.Core.{IsReader, held_at, one_if, times, total}
use Rattle.pin_core.specs.Lawful.{entry_number}
use Rattle.pin_core.specs.Packing.{place}
use Rattle.pin_core.specs.Step.{loaded, pinned}
use Rattle.atomic_table.specs.Table.{Me}
use Rattle.pin_table.specs.declared.sitting.Sitting.{Sitting}
use Rattle.pin_table.specs.Seat.{knowing}
use Rattle.pin_table.specs.Plays.{GoesOn}
use Rattle.pin_table.specs.declared.shelf.TheConstants.{SHELF_COPIES}
use Rattle.pin_table.specs.declared.cell.Cell.{Cell}
use Rattle.pin_table.specs.declared.cell.Cell.TheVariants.{Empty, Place, Desk}
use Rattle.pin_table.specs.declared.sitting.Plan.{Plan}
use Rattle.pin_table.specs.Carried.{slots_of, Exchanges}
use Rattle.pin_table.specs.Shelf.{AreOf}
use Rattle.pin_table.specs.Sources.{source_of}

-- A handle: its version, the version's number, the slot that keeps it, the position at which it was the front, and the
-- number of the reader that made the handle.
pub record Handle (P : Type 0) : Type 0 where
  pub version : P
  pub number : ℕ
  pub slot : ℕ
  pub position : ℕ
  pub reader : ℕ

-- the pin that a handle stands on
abbrev pub pin_of : {P : Type 0} → Handle P → Entry
pin_of handle = record { slot = handle.slot; position = handle.position; held = true }

-- The pin holds what was the front at its position. The reader has seen that position, and after all that the reader has
-- seen the slot still keeps that number.
pub record HoldsFront (slots : ℕ) (seen : List Write) (e : Entry) : Type 0 where
  pub held : e.held ≡ true
  pub told : e.position ≤ length seen
  pub slot : e.slot ≡ front_slot slots (take e.position seen)
  pub inside : e.slot < slots
  pub kept : kept_number slots seen e.slot ≡ entry_number slots seen e

-- each pin of the reader holds a front
abbrev pub AreAllHeld : ℕ → View → Type 0
AreAllHeld slots v = (e : Entry) → Contains v.entries e → HoldsFront slots v.seen e

-- the source of the version that the pin holds
abbrev pub entry_source : ℕ → List Write → Entry → ℕ
entry_source slots seen e = source_of (take e.position seen) (entry_number slots seen e)

-- which slot of the list a place is at
abbrev pub slot_of : ℕ → ℕ
slot_of at = at / READER_NUMBERS

module _ {P H : Type 0} where
  -- the slot holds a place
  abbrev pub is_place : Cell P H → Bool
  is_place Empty = false
  is_place (Place shelf) = true
  is_place (Desk book) = false

  -- the versions that the copies there are of
  abbrev pub shelf_in : Cell P H → List P
  shelf_in Empty = []
  shelf_in (Place shelf) = shelf
  shelf_in (Desk book) = []

  -- how many copies are out of a place that a seat carries
  abbrev pub copies_out : ℕ × Cell P H → ℕ
  copies_out carried = SHELF_COPIES - length (shelf_in carried.1)

  module _ (home : P → H) (source : P → ℕ) where
    -- the version is of this home and this source
    abbrev pub IsOf : H → ℕ → P → Type 0
    IsOf h src version = (home version ≡ h) × (source version ≡ src)

    -- The reader made this handle and hasn't released it. Its version was the front at its position.
    pub record MadeBy (plan : Plan P) (v : View) (handle : Handle P) : Type 0 where
      pub reader : IsReader handle.reader v
      pub pinned : Contains v.entries (pin_of handle)
      pub holds : HoldsFront plan.slots v.seen (pin_of handle)
      pub number : handle.number ≡ entry_number plan.slots v.seen (pin_of handle)
      pub version : IsOf (home plan.first) (entry_source plan.slots v.seen (pin_of handle)) handle.version

    -- the copies at the reader's place at this slot: one fewer than on a full shelf for each handle there, and all of the
    -- version that those are of
    pub record IsShelfAt (plan : Plan P) (v : View) (slot : ℕ) (cell : Cell P H) : Type 0 where
      pub place : is_place cell ≡ true
      pub many : length (shelf_in cell) + held_at slot v ≡ SHELF_COPIES
      pub alike : (e : Entry) → Contains v.entries e → e.slot ≡ slot → All (IsOf (home plan.first) (entry_source plan.slots v.seen e)) (shelf_in cell)

    -- what the seat carries is the reader's place at a slot where it has a handle
    pub record IsOwnPlace (plan : Plan P) (number : ℕ) (v : View) (carried : ℕ × Cell P H) : Type 0 where
      pub at : carried.0 ≡ place (slot_of carried.0) number
      pub inside : slot_of carried.0 < plan.slots
      pub some_handle : 0 < held_at (slot_of carried.0) v
      pub shelf : IsShelfAt plan v (slot_of carried.0) carried.1

    -- The reader carries its place at each slot where it has a handle, and nothing else. As many copies are out as it has
    -- pins.
    pub record CarriesPlaces (plan : Plan P) (number : ℕ) (v : View) (carried : List (ℕ × Cell P H)) : Type 0 where
      pub once : (slot : ℕ) → slot < plan.slots → times (place slot number) (slots_of carried) ≡ one_if (nat_lt 0 (held_at slot v))
      pub only : (x : ℕ × Cell P H) → Contains carried x → IsOwnPlace plan number v x
      pub out : total copies_out carried ≡ length v.entries

    -- ---- a copy that goes out of a place, or comes back ----

    -- there is room for a copy of this version at the place, and the copies there are of its home and source
    abbrev pub HasRoomAt : ℕ → P → List (ℕ × Cell P H) → Type 0
    HasRoomAt at version carried = (cell : Cell P H) → Contains carried (at, cell)
        → (is_place cell ≡ true) × (length (shelf_in cell) < SHELF_COPIES) × AreOf home source (home version) (source version) (shelf_in cell)

  -- there is a copy at the place
  abbrev pub HasCopyAt : ℕ → List (ℕ × Cell P H) → Type 0
  HasCopyAt at carried = (cell : Cell P H) → Contains carried (at, cell) → (is_place cell ≡ true) × (0 < length (shelf_in cell))

  -- a copy of this version was taken out of the place
  pub record CopyTaken (at : ℕ) (version : P) (carried carried' : List (ℕ × Cell P H)) : Type 0 where
    pub others : List P
    pub is : Exchanges at (Place (version ∷ others)) (Place others) carried carried'

  -- a copy of this version was put back there
  pub record CopyPut (at : ℕ) (version : P) (carried carried' : List (ℕ × Cell P H)) : Type 0 where
    pub others : List P
    pub is : Exchanges at (Place others) (Place (version ∷ others)) carried carried'

  -- a pin was added that holds the front which the reader had seen last, and a copy of its version was taken
  pub record PinHeld (home : P → H) (source : P → ℕ) (plan : Plan P) (m : Me (Cell P H) (Sitting P)) (version : P) (m' : Me (Cell P H) (Sitting P)) : Type 0 where
    pub view : m'.0 ≡ knowing (pinned plan.slots (front_number plan.slots m.0.core.seen) m.0.core) m.0
    pub copy : IsOf home source (home plan.first) (source_of m.0.core.seen (front_number plan.slots m.0.core.seen)) version

  -- A pin was added and taken off again, for the front was another by then. The front word that was loaded in between
  -- shows the front after more writes.
  pub record PinMissed (plan : Plan P) (number : ℕ) (m : Me (Cell P H) (Sitting P)) (found : ℕ) (m' : Me (Cell P H) (Sitting P)) : Type 0 where
    pub journal : List Write
    pub view : m'.0 ≡ knowing (record (loaded journal m.0.core) { pins = m.0.core.pins + 1 }) m.0
    pub goes_on : GoesOn plan.slots plan.room number m.0.core journal
    pub later : length m.0.core.seen < length journal
    pub w : found / 2 ^ 32 ≡ length journal
    pub n : found / 2 ^ 6 % 2 ^ 26 ≡ front_number plan.slots journal
    pub slot : found % 2 ^ 6 ≡ front_slot plan.slots journal
