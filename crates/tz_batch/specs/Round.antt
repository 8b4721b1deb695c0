-- A round of a batch, as far as its replies are judged by it. A position w is the number of writes so far.
use Rattle.std.specs.Prelude.{◌≡◌, ℕ, ◌+◌, ◌==◌, Bool, ◌&&◌, List, ◌∷◌, ◌++◌, take, filter, fold}
use Rattle.tz_script.specs.declared.operation.Operation.{Operation}
use Rattle.tz_version.specs.declared.sources.Sources.{Sources}
use Rattle.pin_book.specs.declared.write.Write.{Write}
use Rattle.pin_book.specs.Replay.{Edition, ListState, state_after, front_of}
use Rattle.tz_batch.specs.Batch.{Batch, Answered, start_of}

-- How many lanes there are, the sources, how many slots the list has, the journal, and three positions: from where the
-- round starts, what a lane has seen as it begins the round, and where the round ends.
pub record Round : Type 0 where
  pub lanes : ℕ
  pub sources : Sources
  pub slots : ℕ
  pub journal : List Write
  pub start : ℕ
  pub seen : ℕ
  pub end : ℕ

-- A round of a batch: it starts behind the writes of the rounds before it, which each lane has seen, and ends where the
-- next one starts.
abbrev pub round_of : Batch → ℕ → Round
round_of batch number =
    record {
      lanes = batch.lanes;
      sources = batch.sources;
      slots = batch.slots;
      journal = batch.outcome.journal;
      start = start_of batch number;
      seen = start_of batch number;
      end = start_of batch (number + 1);
    }

-- the list at a position: that after so many writes of the journal
abbrev pub list_at : Round → ℕ → ListState
list_at round w = state_after round.slots (take w round.journal)

-- the version at the front at a position
abbrev pub newest_at : Round → ℕ → Edition
newest_at round w = front_of (list_at round w).listed

-- the other operation is of the same lane and round
abbrev pub is_beside : Operation → Answered → Bool
is_beside operation other =
    (other.operation.lane == operation.lane) && (other.operation.round == operation.round)

-- the last position of the operation's lane in the round, by the replies before it, or else what the lane had seen
abbrev pub position_before : Round → List Answered → Operation → ℕ
position_before round before operation =
    fold (λ w other. other.reply.w) round.seen (filter (is_beside operation) before)

-- a fact of each of these operations, by those before it
abbrev pub InTurn : List Answered → (List Answered → Answered → Type 0) → Type 0
InTurn those fact =
    (before later : List Answered) (here : Answered) → those ≡ before ++ here ∷ later → fact before here
