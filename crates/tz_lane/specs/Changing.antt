-- What a reload and an erasure of a lane come to.
use Rattle.std.specs.Prelude.{◌≡◌, ℕ, ◌<◌, []}
use Rattle.pin_core.specs.declared.view.View.{View}
use Rattle.pin_core.specs.Core.{held_at}
use Rattle.pin_table.specs.declared.sitting.Plan.{Plan}
use Rattle.tz_script.specs.declared.operation.Op.TheVariants as ops
use Rattle.tz_script.specs.declared.operation.Pick.{Pick}
use Rattle.tz_script.specs.declared.operation.Pick.TheVariants.{Front, Held}
use Rattle.tz_version.specs.declared.sources.Sources.{Sources}
use Rattle.tz_version.specs.Release.{Release}
use Rattle.tz_batch.specs.Answering.{AnswersReload, AnswersErase}
use Rattle.tz_batch.specs.Round.{Round, newest_at}
use Rattle.tz_batch.specs.Run.{TellsKept, PassesSlots}
use Rattle.tz_batch.specs.declared.answer.Answer.{Answer}
use Rattle.tz_lane.specs.declared.told.Told.{Told}
use Rattle.tz_lane.specs.Counting.{loads_of, turns_of, TalliesRise}
use Rattle.tz_lane.specs.Meeting.{lane_round, writes_made, Meets}

-- the reader has a handle at the slot
abbrev pub HasHandleAt : View → ℕ → Type 0
HasHandleAt v slot = 0 < held_at slot v

-- The reader of a number, which knew v, was told this of its reload of the source at a place, and knows v' now. Its
-- handles stand for the holds of its lane.
pub record ReloadsInLane (plan : Plan Release) (sources : Sources) (number : ℕ) (v : View) (src : ℕ) (told : Told) (v' : View) : Type 0 where
  pub meets : Meets plan.slots v (writes_made number v (ops.Reload src) told.answer) v' told.w
  pub answer : (begun : ℕ) → AnswersReload (lane_round plan sources begun v') src told.w told.answer
  pub kept : (begun : ℕ) → TellsKept (lane_round plan sources begun v') told.w told.answer
  pub passes : (begun : ℕ) → PassesSlots (lane_round plan sources begun v') (HasHandleAt v) told.w told.answer
  pub counts : TalliesRise v v' (loads_of (ops.Reload src) told.answer) (turns_of (ops.Reload src) told.answer)

-- The reader of a number, which knew v, was told this of an erasure, and knows v' now. Which version the erasure was behind
-- is told apart.
pub record ErasesInLane (plan : Plan Release) (number : ℕ) (v : View) (told : Told) (v' : View) : Type 0 where
  pub meets : (pick : Pick) → Meets plan.slots v (writes_made number v (ops.Erase pick) told.answer) v' told.w
  pub kept : (sources : Sources) (begun : ℕ) → TellsKept (lane_round plan sources begun v') told.w told.answer
  pub counts : (pick : Pick) → TalliesRise v v' (loads_of (ops.Erase pick) told.answer) (turns_of (ops.Erase pick) told.answer)

-- an erasure behind what was at the front at a position
abbrev pub AnswersEraseOf : Round → ℕ → ℕ → Answer → Type 0
AnswersEraseOf round position w answer =
    AnswersErase round 0 (λ name edition. edition ≡ newest_at round position) (Held []) w answer

-- an erasure behind the front, in a lane whose last position was this one, whatever it holds
abbrev pub AnswersEraseFront : Round → ℕ → ℕ → Answer → Type 0
AnswersEraseFront round last w answer = AnswersErase round last (λ name edition. ⊥) Front w answer
