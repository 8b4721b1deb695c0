-- What a lane comes to in a round.
use Rattle.std.specs.Prelude.{◌≡◌, ℕ, ◌+◌, ◌-◌, ◌<◌, ◌==◌, List, [], ◌∷◌, ◌++◌, length, take, filter, filter_map, Some, slice_get, All, IsTrue}
use Rattle.std.specs.List.{sum_by}
use Rattle.pin_book.specs.declared.write.Write.{Write}
use Rattle.pin_core.specs.declared.view.View.{View}
use Rattle.pin_table.specs.declared.sitting.Plan.{Plan}
use Rattle.tz_script.specs.Keeping.{is_in}
use Rattle.tz_script.specs.declared.operation.Operation.{Operation}
use Rattle.tz_version.specs.declared.sources.Sources.{Sources}
use Rattle.tz_batch.specs.Answering.{IsRightReply}
use Rattle.tz_batch.specs.Batch.{Answered, tells_write}
use Rattle.tz_batch.specs.Round.{Round, InTurn, position_before}
use Rattle.tz_batch.specs.Run.{PlacedChange, change_told, HasPosition, SlotsKeep, PassesOver}
use Rattle.tz_lane.specs.Counting.{loads_of, turns_of, TalliesRise}
use Rattle.tz_lane.specs.Meeting.{lane_round, KeepsNumbers}

-- what a lane has to do in a round, in its order
abbrev pub lane_operations : ℕ → ℕ → List Operation → List Operation
lane_operations lane round operations = filter (is_in lane round) operations

-- the operations of a round, in their order
abbrev pub round_operations : ℕ → List Operation → List Operation
round_operations round operations = filter (λ (operation : Operation). operation.round == round) operations

-- the changes that these replies tell of, each with its position
abbrev pub changes_told_by : List Answered → List PlacedChange
changes_told_by those = filter_map change_told those

-- these changes as the writes of a number that had made so many before
abbrev pub writes_from : ℕ → ℕ → List PlacedChange → List Write
writes_from number count [] = []
writes_from number count (placed ∷ later) =
    record { by = number; seq = count + 1; change = placed.change } ∷ writes_from number (count + 1) later

-- the change is a write of the number in this journal, at its position
pub record IsPlacedIn (journal : List Write) (number : ℕ) (placed : PlacedChange) : Type 0 where
  pub write : Write
  pub there : slice_get journal (placed.w - 1) ≡ Some write
  pub by : write.by ≡ number
  pub change : write.change ≡ placed.change

-- each position is above the one before it, and the first one above this
abbrev pub RiseAbove : ℕ → List PlacedChange → Type 0
RiseAbove w [] = Unit {0}
RiseAbove w (placed ∷ later) = (w < placed.w) × RiseAbove placed.w later

-- a reply that tells of a write has a position above the last one of its lane
abbrev pub IsAbove : Round → List Answered → Answered → Type 0
IsAbove round before here =
    IsTrue (tells_write here.reply.answer) → position_before round before here.operation < here.reply.w

-- how often these operations load the front word, and how often they take the turn, at least
abbrev pub loads_told : List Answered → ℕ
loads_told those = sum_by (λ (here : Answered). loads_of here.operation.op here.reply.answer) those

abbrev pub turns_told : List Answered → ℕ
turns_told those = sum_by (λ (here : Answered). turns_of here.operation.op here.reply.answer) those

-- Want of memory stopped a lane: what its reader had seen goes on, and the writes that it made stand, out of its allowance.
pub record StopsLane (v v' : View) : Type 0 where
  pub grows : take (length v.seen) v'.seen ≡ v.seen
  pub made : List Write
  pub own : v'.own ≡ v.own ++ made
  pub allowance : v'.allowance + length made ≡ v.allowance
  pub keeps : KeepsNumbers v v'

module _ {P : Type 0} where
  -- The reader of a number, which knew v, has answered these operations, and knows v' now. It holds nothing. What it answered
  -- is right by the round as it knows it now, whose journal goes on from what it had seen. Each write is told at a position
  -- above the one before it. Its own writes are those that the replies tell of, and no others.
  pub record RunsLane (plan : Plan P) (sources : Sources) (number : ℕ) (v : View) (those : List Answered) (v' : View) : Type 0 where
    pub grows : take (length v.seen) v'.seen ≡ v.seen
    pub right : InTurn those (IsRightReply (lane_round plan sources (length v.seen) v'))
    pub positions : InTurn those (HasPosition (lane_round plan sources (length v.seen) v'))
    pub above : InTurn those (IsAbove (lane_round plan sources (length v.seen) v'))
    pub slots : InTurn those (SlotsKeep (lane_round plan sources (length v.seen) v'))
    pub pushes : InTurn those (PassesOver (lane_round plan sources (length v.seen) v'))
    pub own : v'.own ≡ v.own ++ writes_from number (length v.own) (changes_told_by those)
    pub placed : All (IsPlacedIn v'.seen number) (changes_told_by those)
    pub order : RiseAbove (length v.seen) (changes_told_by those)
    pub allowance : v'.allowance + length (changes_told_by those) ≡ v.allowance
    pub counts : TalliesRise v v' (loads_told those) (turns_told those)
    pub keeps : KeepsNumbers v v'
    pub free : v'.entries ≡ []
