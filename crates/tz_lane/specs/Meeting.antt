-- How a lane meets the shared list: what its reader then knows, and the round that its replies are judged by.
use Rattle.std.specs.Prelude.{◌≡◌, ℕ, ◌+◌, ◌-◌, ◌≤◌, true, List, [], ◌∷◌, ◌++◌, length, take, Some, slice_get, Contains}
use Rattle.tz_script.specs.declared.operation.Op.{Op}
use Rattle.tz_script.specs.declared.operation.Op.TheVariants as ops
use Rattle.pin_book.specs.declared.write.Change.TheVariants.{Push, Erase}
use Rattle.pin_book.specs.declared.write.Write.{Write}
use Rattle.pin_book.specs.Replay.{replays}
use Rattle.pin_core.specs.declared.view.View.{View}
use Rattle.pin_table.specs.declared.sitting.Plan.{Plan}
use Rattle.tz_version.specs.declared.sources.Sources.{Sources}
use Rattle.tz_batch.specs.Round.{Round}
use Rattle.tz_batch.specs.declared.answer.Answer.{Answer}
use Rattle.tz_batch.specs.declared.answer.Answer.TheVariants as answers

-- A round as a lane knows it: the journal as far as its reader has seen it, which is where the round ends so far. The
-- round starts at the reader's floor, and the lane had seen so many writes as it began.
abbrev pub lane_round : {P : Type 0} → Plan P → Sources → ℕ → View → Round
lane_round plan sources begun v =
    record {
      lanes = plan.readers;
      sources = sources;
      slots = plan.slots;
      journal = v.seen;
      start = v.floor;
      seen = begun;
      end = length v.seen;
    }

-- What a reader knows that only it and the main can change: its numbers and its floor.
pub record KeepsNumbers (v v' : View) : Type 0 where
  pub role : v'.role ≡ v.role
  pub numbers : v'.numbers ≡ v.numbers
  pub floor : v'.floor ≡ v.floor

-- The writes that the reader of a number makes where an operation is answered so: one where that tells of a write.
abbrev pub writes_made : ℕ → View → Op → Answer → List Write
writes_made number v (ops.Reload src) (answers.Pushed n slot) =
    record { by = number; seq = length v.own + 1; change = Push n src slot } ∷ []
writes_made number v op (answers.Erased n slot gone) =
    record { by = number; seq = length v.own + 1; change = Erase n gone } ∷ []
writes_made number v op answer = []

-- The reader has met the list once more, at a position that isn't below any that it had seen, and has seen that one
-- since. It made these writes, and none but these, out of its allowance; each stands in the journal at that position.
pub record Meets (slots : ℕ) (v : View) (made : List Write) (v' : View) (w : ℕ) : Type 0 where
  pub grows : take (length v.seen) v'.seen ≡ v.seen
  pub replay : replays slots v'.seen ≡ true
  pub from : length v.seen + length made ≤ w
  pub to : w ≤ length v'.seen
  pub placed : (write : Write) → Contains made write → slice_get v'.seen (w - 1) ≡ Some write
  pub own : v'.own ≡ v.own ++ made
  pub allowance : v'.allowance + length made ≡ v.allowance
  pub keeps : KeepsNumbers v v'

-- The reader may have met the list once more, and has made no write.
pub record MeetsQuietly (v v' : View) : Type 0 where
  pub grows : take (length v.seen) v'.seen ≡ v.seen
  pub own : v'.own ≡ v.own
  pub allowance : v'.allowance ≡ v.allowance
  pub keeps : KeepsNumbers v v'
