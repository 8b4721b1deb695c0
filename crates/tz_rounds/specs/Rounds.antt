-- What rounds of lanes come to. The main splits off a reader for each lane, each reader runs its lane, and the main joins
-- them all before the next round.
use Rattle.std.specs.Prelude.{◌≡◌, ℕ, zero, suc, ◌+◌, ◌≤◌, ◌<◌, ◌==◌, List, [], ◌++◌, length, take, map, All, IsTrue}
use Rattle.std.specs.List.{filter}
use Rattle.tz_types.specs.Order.{ascends}
use Rattle.tz_script.specs.Inside.{stands_before}
use Rattle.tz_script.specs.declared.operation.Operation.{Operation}
use Rattle.tz_version.specs.declared.sources.Sources.{Sources}
use Rattle.pin_book.specs.Replay.{replays}
use Rattle.pin_book.specs.Sequence.{writes_by}
use Rattle.pin_core.specs.declared.view.View.{View}
use Rattle.pin_table.specs.Closing.{IsWhole}
use Rattle.pin_table.specs.declared.sitting.Plan.{Plan}
use Rattle.tz_batch.specs.Batch.{Batch, Answered, answered}
use Rattle.tz_batch.specs.declared.reply.Reply.{Reply}
use Rattle.tz_lane.specs.Lane.{RunsLane}

-- the operations of this lane among these
abbrev pub of_lane : ℕ → List Answered → List Answered
of_lane lane those = filter (λ (here : Answered). here.operation.lane == lane) those

-- the operation is of this round, and of one of so many lanes
pub record IsOfRound (lanes round : ℕ) (here : Answered) : Type 0 where
  pub round_is : here.operation.round ≡ round
  pub some : 1 ≤ here.operation.lane
  pub few : here.operation.lane ≤ lanes

module _ {P : Type 0} where
  -- The main knew `main` before a round, and `main'` after it. In the round the reader of a number answered these
  -- operations. It went out with what the main knew, and came back with what the main has seen and has written by that
  -- number since.
  pub record RanLane (plan : Plan P) (sources : Sources) (number : ℕ) (those : List Answered) (main main' : View) : Type 0 where
    pub out : View
    pub back : View
    pub seen_first : out.seen ≡ main.seen
    pub floor : out.floor ≡ length main.seen
    pub own_first : out.own ≡ writes_by number main.own
    pub runs : RunsLane plan sources number out those back
    pub seen : take (length back.seen) main'.seen ≡ back.seen
    pub own : writes_by number main'.own ≡ back.own

  -- These operations of one round were answered, each lane's by a reader of its own.
  pub record RanRound (plan : Plan P) (sources : Sources) (round : ℕ) (those : List Answered) (main main' : View) : Type 0 where
    pub grows : take (length main.seen) main'.seen ≡ main.seen
    pub inside : All (IsOfRound plan.readers round) those
    pub lanes : (number : ℕ) → number < plan.readers → RanLane plan sources number (of_lane (number + 1) those) main main'

  -- The operations of the rounds from 1 up to this one were answered, one round after another. The main, which at first had
  -- seen and written nothing, knows `main` now.
  abbrev pub RanUpTo : Plan P → Sources → ℕ → List Answered → View → Type 0
  RanUpTo plan sources zero those main = (those ≡ []) × (main.seen ≡ []) × (main.own ≡ [])
  RanUpTo plan sources (suc round) those main =
      (earlier : List Answered) × (here : List Answered) × (before : View) × (those ≡ earlier ++ here)
      × RanUpTo plan sources round earlier before × RanRound plan sources (suc round) here before main

  -- All operations of a batch were answered so in that many rounds, each by one reply, and then the list was closed, which
  -- gave the batch's journal.
  pub record RanRounds (plan : Plan P) (batch : Batch) (rounds : ℕ) (main : View) : Type 0 where
    pub lanes : plan.readers ≡ batch.lanes
    pub slots : plan.slots ≡ batch.slots
    pub rising : IsTrue (ascends stands_before batch.operations)
    pub one_each : map (λ (reply : Reply). reply.line) batch.outcome.replies
        ≡ map (λ (operation : Operation). operation.line) batch.operations
    pub ran : RanUpTo plan batch.sources rounds (answered batch) main
    pub whole : IsWhole plan.readers main batch.outcome.journal
    pub replay : IsTrue (replays batch.slots batch.outcome.journal)
