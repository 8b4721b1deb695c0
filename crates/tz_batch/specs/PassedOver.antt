-- Which slots a push may pass over, and when none is left.
use Rattle.std.specs.Prelude.{◌≡◌, ℕ, ◌≤◌, ◌<◌, ◌⊎◌, List, IsTrue}
use Rattle.tz_script.specs.declared.holds.OpenHold.{OpenHold}
use Rattle.tz_script.specs.declared.operation.Operation.{Operation}
use Rattle.pin_book.specs.Replay.{is_slot_listed}
use Rattle.tz_batch.specs.Batch.{Answered}
use Rattle.tz_batch.specs.Round.{Round, list_at, newest_at}
use Rattle.tz_batch.specs.Held.{IsOpenHold}

-- the version of a hold that is open in the operation's round is in that slot
pub record IsHeldSlot (round : Round) (before : List Answered) (operation : Operation) (slot : ℕ) : Type 0 where
  pub open_hold : OpenHold
  pub begun : Answered
  pub is : IsOpenHold before operation.round open_hold begun
  pub in_slot : (newest_at round begun.reply.w).slot ≡ slot

-- the front was in that slot at some position of the round up to this one
abbrev pub WasFrontSlot : Round → ℕ → ℕ → Type 0
WasFrontSlot round w slot = (v : ℕ) × (round.start ≤ v) × (v ≤ w) × ((newest_at round v).slot ≡ slot)

-- A slot that a version may be kept in, where an open hold is known in these slots: with one lane that is told by its open
-- holds, and with more a hold of another lane may have begun at any position of the round.
abbrev pub MayBeHeld : Round → (ℕ → Type 0) → ℕ → ℕ → Type 0
MayBeHeld round is_held w slot =
    (round.lanes ≡ 1 → is_held slot) × (¬ (round.lanes ≡ 1) → WasFrontSlot round w slot)

-- the slot is passed over at a position: it is listed, or may be held
abbrev pub IsPassedOver : Round → (ℕ → Type 0) → ℕ → ℕ → Type 0
IsPassedOver round is_held w slot =
    IsTrue (is_slot_listed slot (list_at round w).listed) ⊎ MayBeHeld round is_held w slot

-- every slot of the list is passed over
abbrev pub IsFull : Round → (ℕ → Type 0) → ℕ → Type 0
IsFull round is_held w = (slot : ℕ) → slot < round.slots → IsPassedOver round is_held w slot
