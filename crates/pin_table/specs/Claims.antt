-- How a reader that has the turn looks for a slot to push into.
use Rattle.std.specs.Prelude.{◌≡◌, ◌⊎◌, ℕ, ◌<◌, true, false, List, length, ◌++◌}
use Rattle.atomic_table.specs.Table.{Me}
use Rattle.pin_book.specs.Replay.{is_taken}
use Rattle.pin_core.specs.Core.{held_at, times}
use Rattle.pin_core.specs.Packing.{place}
use Rattle.pin_core.specs.Step.{claiming}
use Rattle.pin_table.specs.declared.cell.Cell.{Cell}
use Rattle.pin_table.specs.declared.sitting.Plan.{Plan}
use Rattle.pin_table.specs.declared.sitting.Sitting.{Sitting}
use Rattle.pin_table.specs.Carried.{slots_of, Exchanges}
use Rattle.pin_table.specs.Seat.{knowing}
use Rattle.pin_table.specs.Runs.{run_from}
use Rattle.pin_table.specs.Plays.{SlotPinned}
use Rattle.pin_table.specs.Turns.{FoundPinned, finding}

module _ {P H : Type 0} where
  -- the slot was passed by: it is listed, or it was found pinned
  abbrev pub PassesSlot : Plan P → ℕ → Me (Cell P H) (Sitting P) → Me (Cell P H) (Sitting P) → Type 0
  PassesSlot plan slot m m' =
      ((is_taken plan.slots m.0.core.seen slot ≡ true) × (m' ≡ m)) ⊎ ((is_taken plan.slots m.0.core.seen slot ≡ false) × SlotPinned plan slot m m')

  -- all slots below this one were passed by
  pub record PassesBelow (plan : Plan P) (slot : ℕ) (m m' : Me (Cell P H) (Sitting P)) : Type 0 where
    pub pinned : FoundPinned plan.slots plan.readers m.0.core slot
    pub seat : m' ≡ (knowing (finding plan.slots slot m.0.core) m.0, m.1)

  -- and this one was claimed, so that the seat has its places
  pub record ClaimsLeast (plan : Plan P) (slot : ℕ) (m m' : Me (Cell P H) (Sitting P)) : Type 0 where
    pub pinned : FoundPinned plan.slots plan.readers m.0.core slot
    pub inside : slot < plan.slots
    pub unlisted : is_taken plan.slots m.0.core.seen slot ≡ false
    pub free : held_at slot m.0.core ≡ 0
    pub cells : List (Cell P H)
    pub many : length cells ≡ plan.readers
    pub seat : m' ≡ (knowing (claiming slot (finding plan.slots slot m.0.core)) m.0, run_from (place slot 0) cells ++ m.1)

  -- the seat carries no place at a slot where its reader has no handle
  abbrev pub FreePlaces : Plan P → Me (Cell P H) (Sitting P) → Type 0
  FreePlaces plan m = (slot reader : ℕ) → slot < plan.slots → reader < plan.readers → held_at slot m.0.core ≡ 0 → times (place slot reader) (slots_of m.1) ≡ 0

-- the slot holds this now, whatever it held
abbrev pub FillsPlace : {S : Type 0} → ℕ → S → List (ℕ × S) → List (ℕ × S) → Type 0
FillsPlace {S} slot new carried carried' = (old : S) × Exchanges slot old new carried carried'
