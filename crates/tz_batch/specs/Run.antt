-- What a run of a script may give: the journal and the replies that fit together, for any number of lanes and rounds.
use Rattle.std.specs.Prelude.{◌≡◌, ℕ, suc, ◌+◌, ◌-◌, ◌≤◌, ◌<◌, ◌==◌, nat_lt, if◌then◌else◌, List, [], ◌∷◌, map, filter_map, Option, Some, None, slice_get, Contains, IsTrue}
use Rattle.std.specs.List.{list_all}
use Rattle.tz_script.specs.declared.operation.Operation.{Operation}
use Rattle.tz_script.specs.declared.script.Script.{Script}
use Rattle.tz_script.specs.declared.operation.Op.{Op}
use Rattle.tz_script.specs.declared.operation.Op.TheVariants as ops
use Rattle.tz_version.specs.declared.sources.Sources.{Sources}
use Rattle.pin_book.specs.declared.listed.Listed.{Listed}
use Rattle.pin_book.specs.declared.write.Change.{Change}
use Rattle.pin_book.specs.declared.write.Change.TheVariants.{Push, Erase}
use Rattle.pin_book.specs.declared.write.Write.{Write}
use Rattle.pin_book.specs.Replay.{replays}
use Rattle.pin_book.specs.Sequence.{AreCounted}
use Rattle.tz_batch.specs.Batch.{Batch, Answered, answered}
use Rattle.tz_batch.specs.Round.{Round, round_of, list_at, position_before, InTurn}
use Rattle.tz_batch.specs.Answering.{IsRightReply}
use Rattle.tz_batch.specs.PassedOver.{IsHeldSlot, IsPassedOver, IsFull}
use Rattle.tz_batch.specs.declared.answer.Answer.{Answer}
use Rattle.tz_batch.specs.declared.answer.Answer.TheVariants as answers
use Rattle.tz_batch.specs.declared.outcome.Outcome.{Outcome}
use Rattle.tz_batch.specs.declared.reply.Reply.{Reply}

-- a fact of each operation in its round, by those before it
abbrev pub EachInTurn : Batch → (Round → List Answered → Answered → Type 0) → Type 0
EachInTurn batch fact =
    InTurn (answered batch) (λ before here. fact (round_of batch here.operation.round) before here)

-- ---- the journal ----

-- a change of the list at a position
pub record PlacedChange : Type 0 where
  pub w : ℕ
  pub change : Change

-- the write that a reply tells of: what it changes and its position
abbrev pub change_told : Answered → Option PlacedChange
change_told here = by_answer here.operation.op here.reply.answer
  where
    by_answer : Op → Answer → Option PlacedChange
    by_answer (ops.Reload src) (answers.Pushed n slot) = Some (record { w = here.reply.w; change = Push n src slot })
    by_answer op (answers.Erased n slot gone) = Some (record { w = here.reply.w; change = Erase n gone })
    by_answer op _ = None

-- the same of an operation of that lane
abbrev pub change_told_in : ℕ → Answered → Option PlacedChange
change_told_in lane here = if here.operation.lane == lane then change_told here else None

-- the changes that the replies of a lane tell of, in the order of the script
abbrev pub changes_told : Batch → ℕ → List PlacedChange
changes_told batch lane = filter_map (change_told_in lane) (answered batch)

-- the changes of the writes by this number, each with its place, where the first of these writes has that place
abbrev pub changes_by : ℕ → ℕ → List Write → List PlacedChange
changes_by number w [] = []
changes_by number w (write ∷ later) =
    if write.by == number
    then record { w = w; change = write.change } ∷ changes_by number (suc w) later
    else changes_by number (suc w) later

-- The writes of the journal are those that the replies tell of: for each lane the same, in the same order and places,
-- counted from 1 by its number, which is the lane less 1; and there are no others.
pub record WritesAreReplies (batch : Batch) : Type 0 where
  pub same : (number : ℕ) → number < batch.lanes →
      changes_told batch (number + 1) ≡ changes_by number 1 batch.outcome.journal
  pub counted : AreCounted batch.outcome.journal
  pub no_others : IsTrue (list_all (λ write. nat_lt write.by batch.lanes) batch.outcome.journal)

-- ---- the replies ----

-- there is one reply to each operation, in the order of the script, by its line, and it is the one of one thread
pub record RepliesAreRight (batch : Batch) : Type 0 where
  pub one_each : map (λ (reply : Reply). reply.line) batch.outcome.replies
      ≡ map (λ (operation : Operation). operation.line) batch.operations
  pub right : EachInTurn batch IsRightReply

-- ---- the positions ----

-- A position is at most where the round ends, and not below the one before it of its lane.
pub record HasPosition (round : Round) (before : List Answered) (here : Answered) : Type 0 where
  pub low : position_before round before here.operation ≤ here.reply.w
  pub high : here.reply.w ≤ round.end

abbrev pub PositionsDontFall : Batch → Type 0
PositionsDontFall batch = EachInTurn batch HasPosition

-- ---- the slots ----

-- a version by its number, in its slot
pub record InSlot : Type 0 where
  pub n : ℕ
  pub slot : ℕ

-- the versions that an answer tells by their numbers and slots
abbrev pub versions_told : Answer → List InSlot
versions_told (answers.Front n slot) = record { n = n; slot = slot } ∷ []
versions_told (answers.Held n slot) = record { n = n; slot = slot } ∷ []
versions_told (answers.Dropped n slot) = record { n = n; slot = slot } ∷ []
versions_told (answers.Pushed n slot) = record { n = n; slot = slot } ∷ []
versions_told (answers.Same n) = []
versions_told answers.Full = []
versions_told (answers.Refused file line cause) = []
versions_told (answers.Erased n slot gone) = record { n = n; slot = slot } ∷ []
versions_told (answers.Nothing n slot) = record { n = n; slot = slot } ∷ []
versions_told (answers.NotListed n slot) = record { n = n; slot = slot } ∷ []
versions_told (answers.Listed listing) =
    map (λ (row : Listed). record { n = row.n; slot = row.slot }) listing.rows
versions_told (answers.On n slot found) = record { n = n; slot = slot } ∷ []

-- each slot that an answer tells keeps the number that it tells, at its position
abbrev pub TellsKept : Round → ℕ → Answer → Type 0
TellsKept round w answer =
    (told : InSlot) → Contains (versions_told answer) told → slice_get (list_at round w).kept told.slot ≡ Some told.n

-- the same of a reply
abbrev pub SlotsKeep : Round → List Answered → Answered → Type 0
SlotsKeep round before here = TellsKept round here.reply.w here.reply.answer

-- Every slot below the one that a push takes is passed over in the list that the push met. With one lane a push is made
-- wherever a slot isn't passed over.
pub record TakesFirstSlot (round : Round) (is_held : ℕ → Type 0) (met slot : ℕ) : Type 0 where
  pub lower : (other : ℕ) → other < slot → IsPassedOver round is_held met other
  pub exact : round.lanes ≡ 1 → ¬ (IsFull round is_held met)

-- a push takes a slot so, and the list is full only where every slot is passed over
abbrev pub PassesSlots : Round → (ℕ → Type 0) → ℕ → Answer → Type 0
PassesSlots round is_held w (answers.Pushed n slot) = TakesFirstSlot round is_held (w - 1) slot
PassesSlots round is_held w answers.Full = IsFull round is_held w
PassesSlots round is_held w _ = Unit {0}

-- the same of a reply, by the holds that are open in its round
abbrev pub PassesOver : Round → List Answered → Answered → Type 0
PassesOver round before here =
    PassesSlots round (IsHeldSlot round before here.operation) here.reply.w here.reply.answer

-- ---- the run ----

-- all parts together
pub record IsRunOf (batch : Batch) : Type 0 where
  pub replay : IsTrue (replays batch.slots batch.outcome.journal)
  pub writes : WritesAreReplies batch
  pub replies : RepliesAreRight batch
  pub positions : PositionsDontFall batch
  pub slots : EachInTurn batch SlotsKeep
  pub pushes : EachInTurn batch PassesOver

-- the outcome is one that a run of the script may give, over these sources and in a list of so many slots
abbrev pub IsRun : Script → Sources → ℕ → Outcome → Type 0
IsRun script sources slots outcome =
    IsRunOf (record {
      lanes = script.lanes;
      operations = script.operations;
      sources = sources;
      slots = slots;
      outcome = outcome;
    })
