-- Words for laws of runs.
use Rattle.std.specs.Prelude.{◌≡◌, ℕ, ◌-◌, ◌≤◌, ◌<◌, ◌⊎◌, [], ◌∷◌, List, Some, slice_get, take, drop, IsTrue}
use Rattle.tz_script.specs.declared.operation.Op.TheVariants as ops
use Rattle.tz_script.specs.declared.operation.Operation.{Operation}
use Rattle.tz_script.specs.declared.script.Script.{Script}
use Rattle.tz_version.specs.declared.sources.Sources.{Sources}
use Rattle.pin_book.specs.declared.write.Change.TheVariants.{Push}
use Rattle.pin_book.specs.declared.write.Write.{Write}
use Rattle.pin_book.specs.Replay.{is_slot_listed}
use Rattle.tz_batch.specs.Batch.{Batch, Answered}
use Rattle.tz_batch.specs.PassedOver.{IsHeldSlot}
use Rattle.tz_batch.specs.Round.{Round, list_at, newest_at}
use Rattle.tz_batch.specs.declared.answer.Answer.TheVariants as answers
use Rattle.tz_batch.specs.declared.outcome.Outcome.{Outcome}
use Rattle.tz_batch.specs.declared.reply.Reply.{Reply}

-- the operation at a place of a script, and its reply in an outcome
pub record IsReplied (script : Script) (outcome : Outcome) (place : ℕ) (operation : Operation) (reply : Reply) : Type 0 where
  pub asked : slice_get script.operations place ≡ Some operation
  pub told : slice_get outcome.replies place ≡ Some reply

-- an outcome of a script as a batch
abbrev pub batch_of : Script → Sources → ℕ → Outcome → Batch
batch_of script sources slots outcome =
    record { lanes = script.lanes; operations = script.operations; sources = sources; slots = slots; outcome = outcome }

-- the writes of the journal from one position to another
abbrev pub writes_between : ℕ → ℕ → List Write → List Write
writes_between from to journal = take (to - from) (drop from journal)

-- the front was in that slot at a position of the round
abbrev pub WasFrontInRound : Round → ℕ → Type 0
WasFrontInRound round slot = (v : ℕ) × (round.start ≤ v) × (v ≤ round.end) × ((newest_at round v).slot ≡ slot)

-- each slot of the list is listed at a position, or has a hold that is open in the operation's round
abbrev pub IsTaken : Round → List Answered → Operation → ℕ → Type 0
IsTaken round before operation w =
    (slot : ℕ) → slot < round.slots
    → IsTrue (is_slot_listed slot (list_at round w).listed) ⊎ IsHeldSlot round before operation slot

-- ---- a reload in one lane beside two looks in another ----

-- three operations: the first lane reloads source 1, and a lane looks twice
abbrev pub reload_beside_looks : ℕ → List Operation
reload_beside_looks lane =
    record { line = 3; round = 1; lane = 1; op = ops.Reload 1 }
    ∷ record { line = 4; round = 1; lane = lane; op = ops.Look }
    ∷ record { line = 5; round = 1; lane = lane; op = ops.Look }
    ∷ []

-- the version of source 1 is pushed into slot 1
abbrev pub one_push : List Write
one_push = record { by = 0; seq = 1; change = Push 2 1 1 } ∷ []

abbrev pub push_told : Reply
push_told = record { line = 3; w = 1; answer = answers.Pushed 2 1 }

-- a look before the push, and one after it
abbrev pub first_told : ℕ → Reply
first_told line = record { line = line; w = 0; answer = answers.Front 1 0 }

abbrev pub second_told : ℕ → Reply
second_told line = record { line = line; w = 1; answer = answers.Front 2 1 }

abbrev batch_with : Sources → ℕ → ℕ → List Reply → Batch
batch_with sources lanes lane replies =
    record {
      lanes = lanes;
      operations = reload_beside_looks lane;
      sources = sources;
      slots = 2;
      outcome = record { journal = one_push; replies = replies };
    }

-- the looks meet the list before the push and after it
abbrev pub looks_around : Sources → ℕ → ℕ → Batch
looks_around sources lanes lane = batch_with sources lanes lane (push_told ∷ first_told 4 ∷ second_told 5 ∷ [])

-- the same, where the later look meets the older list
abbrev pub looks_turned : Sources → ℕ → ℕ → Batch
looks_turned sources lanes lane = batch_with sources lanes lane (push_told ∷ second_told 4 ∷ first_told 5 ∷ [])
