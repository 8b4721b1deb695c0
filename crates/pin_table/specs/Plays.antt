-- What each atomic step tells the seat that makes it: what the word that it found shows, what the seat knows afterwards,
-- and which places, or the book, it has then. What it knows is what pin_core's step makes of its view.
use Rattle.std.specs.Prelude.{◌≡◌, ◌≢◌, ℕ, ◌+◌, ◌/◌, ◌%◌, ◌^◌, ◌<◌, ◌≤◌, true, false, Some, None, List, ◌∷◌, ◌++◌, length, take, drop, Contains}
use mathlib.Core.Option.{some}
use lib.ListN.{get_elem?}
use Rattle.atomic_table.specs.Table.{Me, rest}
use Rattle.pin_book.specs.declared.write.Write.{Write}
use Rattle.pin_book.specs.declared.write.Change.{Change}
use Rattle.pin_book.specs.declared.write.Change.TheVariants.{Push, Erase}
use Rattle.pin_book.specs.Sequence.{writes_by}
use Rattle.pin_book.specs.Replay.{front_number, front_slot, kept_number, is_taken, replays, state_after, allowed}
use Rattle.pin_core.specs.declared.entry.Entry.{Entry}
use Rattle.pin_core.specs.declared.view.View.{View}
use Rattle.pin_core.specs.Core.{IsReader, held_at, pins_at}
use Rattle.pin_core.specs.Lawful.{entry_number, WasFrontOnce}
use Rattle.pin_core.specs.Step.{loaded, pinned, unpinned, got_turn, was_refused, gave_turn, stored, claiming, found_pinned, HasClaimed, front_after}
use Rattle.pin_core.specs.Packing.{place, book_place, packed_slot, packed_front, packed_turn}
use Rattle.pin_table.specs.declared.cell.Cell.{Cell}
use Rattle.pin_table.specs.declared.cell.Cell.TheVariants.{Desk}
use Rattle.pin_table.specs.declared.sitting.Plan.{Plan}
use Rattle.pin_table.specs.declared.sitting.Sitting.{Sitting}
use Rattle.pin_table.specs.Seat.{knowing}
use Rattle.pin_table.specs.Runs.{run_from}
use Rattle.pin_table.specs.Sources.{source_of, book_of}
use Rattle.pin_table.specs.Places.{IsStockedPlace}

-- the fact of how the seat's table was made, and of the seat's reader number
abbrev pub ForReader : {P : Type 0} → Sitting P → (Plan P → ℕ → Type 0) → Type 0
ForReader {P} v fact = (plan : Plan P) (number : ℕ) → v.plan ≡ Some plan → IsReader number v.core → fact plan number

-- What holds of the journal at a step of this reader: it goes on from what the reader has seen, it replays, and has room
-- for what the reader may still write. The reader's own writes are its own part of it. Each slot where the reader has a
-- handle keeps the handle's number after it, and each of its strays is older than the last write. The reader has eight
-- pins at most.
pub record GoesOn (slots room number : ℕ) (v : View) (journal : List Write) : Type 0 where
  pub grows : take (length v.seen) journal ≡ v.seen
  pub replay : replays slots journal ≡ true
  pub fits : length journal + v.allowance ≤ room
  pub own : writes_by number journal ≡ v.own
  pub handles : (e : Entry) → Contains v.entries e → e.held ≡ true → kept_number slots journal e.slot ≡ entry_number slots journal e
  pub strays : (e : Entry) → Contains v.entries e → e.held ≡ false → e.position < length journal
  pub few : length v.entries ≤ 8

-- the word of a slot that no pin is at, with the number that the slot keeps after this journal
abbrev pub unpinned_word : ℕ → List Write → ℕ → ℕ
unpinned_word slots journal slot = packed_slot record { number = kept_number slots journal slot; count = 0 }

-- the word of a slot that is claimed after this journal: it shows the number that comes next
abbrev pub claimed_word : ℕ → List Write → ℕ
claimed_word slots journal = packed_slot record { number = front_number slots journal + 1; count = 0 }

-- the front word after this journal
abbrev pub stored_word : ℕ → List Write → ℕ
stored_word slots journal = packed_front (front_after slots journal)

-- Who has the turn has seen the whole journal, so what `MayClaim` asks of it is asked of what the reader has seen.
pub record MayClaimSlot (slots : ℕ) (slot : ℕ) (v : View) : Type 0 where
  pub turn : v.turn ≡ true
  pub free : v.claimed ≡ None
  pub inside : slot < slots
  pub unlisted : is_taken slots v.seen slot ≡ false

-- the same of what `MayStore` asks
pub record MayWrite (slots number : ℕ) (write : Write) (v : View) : Type 0 where
  pub turn : v.turn ≡ true
  pub allowance : 0 < v.allowance
  pub allows : allowed (state_after slots v.seen) write.change ≡ true
  pub by : write.by ≡ number
  pub seq : write.seq ≡ length v.own + 1
  pub claimed : HasClaimed v.claimed write.change

-- the change is an erase
abbrev pub IsErase : Change → Type 0
IsErase (Push n src slot) = ⊥
IsErase (Erase after gone) = Unit {0}

module _ {P H : Type 0} where
  -- the front word that was loaded shows the front after a journal, which the seat has seen then
  pub record FrontLoaded (plan : Plan P) (number : ℕ) (m : Me (Cell P H) (Sitting P)) (found : ℕ) (m' : Me (Cell P H) (Sitting P)) : Type 0 where
    pub journal : List Write
    pub seat : m' ≡ (knowing (loaded journal m.0.core) m.0, m.1)
    pub goes_on : GoesOn plan.slots plan.room number m.0.core journal
    pub w : found / 2 ^ 32 ≡ length journal
    pub n : found / 2 ^ 6 % 2 ^ 26 ≡ front_number plan.slots journal
    pub slot : found % 2 ^ 6 ≡ front_slot plan.slots journal
    pub inside : front_slot plan.slots journal < plan.slots

  -- another reader has the turn, so there is more than one
  pub record TurnMissed (plan : Plan P) (number : ℕ) (m : Me (Cell P H) (Sitting P)) (found : ℕ) (m' : Me (Cell P H) (Sitting P)) : Type 0 where
    pub holder : ℕ
    pub seat : m' ≡ (knowing (was_refused (Some holder) m.0.core) m.0, m.1)
    pub named : found ≡ packed_turn (Some holder)
    pub other : holder ≢ number
    pub inside : holder < plan.readers
    pub several : 1 < plan.readers

  module _ (home : P → H) (source : P → ℕ) where
    -- the seat has taken a place, which is stocked with the version of this number
    pub record TakesPlace (plan : Plan P) (journal : List Write) (number at : ℕ) (carried carried' : List (ℕ × Cell P H)) : Type 0 where
      pub cell : Cell P H
      pub stocked : IsStockedPlace home source (home plan.first) (source_of journal number) cell
      pub is : carried' ≡ (at, cell) ∷ carried

    -- the place that the seat has taken last is this one, and is stocked with the version of this number
    pub record MayGivePlace (plan : Plan P) (journal : List Write) (number at : ℕ) (carried : List (ℕ × Cell P H)) : Type 0 where
      pub cell : Cell P H
      pub stocked : IsStockedPlace home source (home plan.first) (source_of journal number) cell
      pub is : carried ≡ (at, cell) ∷ rest carried

    -- A pin was added at the slot of the front that the reader has seen last, whose word showed a number: the front's, or
    -- another, and then the pin is a stray. With the first handle there the reader takes its place.
    pub record PinAdded (plan : Plan P) (reader : ℕ) (m : Me (Cell P H) (Sitting P)) (found : ℕ) (m' : Me (Cell P H) (Sitting P)) : Type 0 where
      pub view : m'.0 ≡ knowing (pinned plan.slots (found / 2 ^ 32) m.0.core) m.0
      pub first : found / 2 ^ 32 ≡ front_number plan.slots m.0.core.seen → held_at (front_slot plan.slots m.0.core.seen) m.0.core ≡ 0
          → TakesPlace plan m.0.core.seen (front_number plan.slots m.0.core.seen) (place (front_slot plan.slots m.0.core.seen) reader) m.1 m'.1
      pub further : 0 < held_at (front_slot plan.slots m.0.core.seen) m.0.core → (found / 2 ^ 32 ≡ front_number plan.slots m.0.core.seen) × (m'.1 ≡ m.1)
      pub stray : found / 2 ^ 32 ≢ front_number plan.slots m.0.core.seen → m'.1 ≡ m.1

    -- The pin of this entry was taken off, whose slot's word showed the handle's number if it was one. With the last handle
    -- at a slot the reader gives its place back.
    pub record PinTaken (plan : Plan P) (at : ℕ) (e : Entry) (m : Me (Cell P H) (Sitting P)) (found : ℕ) (m' : Me (Cell P H) (Sitting P)) : Type 0 where
      pub view : m'.0 ≡ knowing (unpinned at m.0.core) m.0
      pub shown : e.held ≡ true → found / 2 ^ 32 ≡ entry_number plan.slots m.0.core.seen e
      pub last : e.held ≡ true → held_at e.slot m.0.core ≡ 1 → m'.1 ≡ rest m.1
      pub further : e.held ≡ true → 1 < held_at e.slot m.0.core → m'.1 ≡ m.1
      pub stray : e.held ≡ false → m'.1 ≡ m.1

  module _ (home : P → H) (name_of : H → ℕ → List ℕ) where
    -- the book of this journal, with its place
    abbrev pub book_cell : Plan P → List Write → ℕ × Cell P H
    book_cell plan journal = (book_place plan.slots, Desk (book_of name_of (home plan.first) plan.slots plan.room journal))

    -- the reader has got the turn: it has seen the whole journal, and has the book
    pub record TurnTaken (plan : Plan P) (number : ℕ) (m : Me (Cell P H) (Sitting P)) (m' : Me (Cell P H) (Sitting P)) : Type 0 where
      pub journal : List Write
      pub seat : m' ≡ (knowing (got_turn journal m.0.core) m.0, book_cell plan journal ∷ m.1)
      pub goes_on : GoesOn plan.slots plan.room number m.0.core journal

    -- An exchange of the turn word from nobody gets the turn where it finds nobody there, and else tells which other reader
    -- has it.
    pub record TurnTried (plan : Plan P) (number : ℕ) (m : Me (Cell P H) (Sitting P)) (found : ℕ) (m' : Me (Cell P H) (Sitting P)) : Type 0 where
      pub won : found ≡ packed_turn None → TurnTaken plan number m m'
      pub lost : found ≢ packed_turn None → TurnMissed plan number m found m'

  -- the turn was given back, and the book with it
  abbrev pub TurnGiven : Me (Cell P H) (Sitting P) → Me (Cell P H) (Sitting P) → Type 0
  TurnGiven m m' = m' ≡ (knowing (gave_turn m.0.core) m.0, rest m.1)

  -- the front word after an erase was stored
  abbrev pub EraseStored : Write → Me (Cell P H) (Sitting P) → Me (Cell P H) (Sitting P) → Type 0
  EraseStored write m m' = m' ≡ (knowing (stored write m.0.core) m.0, m.1)

  -- the seat has all places of this slot, which it has claimed, and the reader has no handle there
  pub record SlotClaimed (plan : Plan P) (slot : ℕ) (m m' : Me (Cell P H) (Sitting P)) : Type 0 where
    pub cells : List (Cell P H)
    pub many : length cells ≡ plan.readers
    pub seat : m' ≡ (knowing (claiming slot m.0.core) m.0, run_from (place slot 0) cells ++ m.1)
    pub free : held_at slot m.0.core ≡ 0

  -- The slot was found pinned. It was the front's once, not before the floor. In a table of one reader the pin is its own.
  pub record SlotPinned (plan : Plan P) (slot : ℕ) (m m' : Me (Cell P H) (Sitting P)) : Type 0 where
    pub seat : m' ≡ (knowing (found_pinned slot m.0.core) m.0, m.1)
    pub once : WasFrontOnce plan.slots m.0.core.seen m.0.core.floor (length m.0.core.seen) slot
    pub alone : plan.readers ≡ 1 → 0 < pins_at slot m.0.core

  -- An exchange of the slot's word from the number that the slot keeps and no pin claims the slot where it finds that, and
  -- else finds the slot pinned.
  pub record SlotTried (plan : Plan P) (slot : ℕ) (m : Me (Cell P H) (Sitting P)) (found : ℕ) (m' : Me (Cell P H) (Sitting P)) : Type 0 where
    pub won : found ≡ unpinned_word plan.slots m.0.core.seen slot → SlotClaimed plan slot m m'
    pub lost : found ≢ unpinned_word plan.slots m.0.core.seen slot → SlotPinned plan slot m m'

  -- the front word after a push was stored, and the places of its slot, which the seat had taken last, were given back
  abbrev pub PushStored : Plan P → Write → Me (Cell P H) (Sitting P) → Me (Cell P H) (Sitting P) → Type 0
  PushStored plan write m m' = m' ≡ (knowing (stored write m.0.core) m.0, drop plan.readers m.1)

  module _ (home : P → H) (source : P → ℕ) where
    -- the seat has taken the places of this slot last, each stocked with versions of this source
    pub record HasStockedRun (plan : Plan P) (slot src : ℕ) (carried : List (ℕ × Cell P H)) : Type 0 where
      pub cells : List (Cell P H)
      pub many : length cells ≡ plan.readers
      pub stocked : (i : ℕ) (cell : Cell P H) → get_elem? cells i ≡ some cell → IsStockedPlace home source (home plan.first) src cell
      pub is : carried ≡ run_from (place slot 0) cells ++ drop plan.readers carried

    -- the change is a push, and the seat has taken the places of its slot last, stocked with versions of its source
    abbrev pub PushesStocked : Plan P → Change → List (ℕ × Cell P H) → Type 0
    PushesStocked plan (Push n src slot) carried = HasStockedRun plan slot src carried
    PushesStocked plan (Erase after gone) carried = ⊥
