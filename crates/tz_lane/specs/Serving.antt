-- What one operation of a lane comes to.
use Rattle.std.specs.Prelude.{ℕ, List, length}
use Rattle.pin_core.specs.declared.view.View.{View}
use Rattle.pin_table.specs.declared.sitting.Plan.{Plan}
use Rattle.tz_script.specs.declared.operation.Op.{Op}
use Rattle.tz_version.specs.declared.sources.Sources.{Sources}
use Rattle.tz_version.specs.Release.{Release}
use Rattle.tz_batch.specs.Answering.{AnswersOp}
use Rattle.tz_batch.specs.Run.{TellsKept, PassesSlots}
use Rattle.tz_lane.specs.declared.lane_hold.LaneHold.{LaneHold}
use Rattle.tz_lane.specs.declared.told.Told.{Told}
use Rattle.tz_lane.specs.Counting.{loads_of, turns_of, TalliesRise}
use Rattle.tz_lane.specs.Holding.{LaneHoldsAs, HoldsSlot, HoldsAfter}
use Rattle.tz_lane.specs.Meeting.{lane_round, writes_made, Meets}

-- The reader of a number, which knew v and had these holds, was told this of an operation at a line, and knows v' now and
-- has the later holds. What it was told is right by the round as the lane knows it then, however much the lane had seen as
-- it began.
pub record ServesInLane (plan : Plan Release) (sources : Sources) (number : ℕ) (v : View) (held : List LaneHold) (line : ℕ) (op : Op) (told : Told) (v' : View) (later : List LaneHold) : Type 0 where
  pub meets : Meets plan.slots v (writes_made number v op told.answer) v' told.w
  pub answer : (begun : ℕ) → AnswersOp (lane_round plan sources begun v') (length v.seen) (LaneHoldsAs (lane_round plan sources begun v') held) op told.w told.answer
  pub kept : (begun : ℕ) → TellsKept (lane_round plan sources begun v') told.w told.answer
  pub passes : (begun : ℕ) → PassesSlots (lane_round plan sources begun v') (HoldsSlot (lane_round plan sources begun v') held) told.w told.answer
  pub counts : TalliesRise v v' (loads_of op told.answer) (turns_of op told.answer)
  pub holds : HoldsAfter line op told.w held later
