-- What the readers of a round come back with.
use Rattle.std.specs.Prelude.{◌≡◌, ℕ, ◌+◌, ◌==◌, List, [], ◌∷◌, map}
use Rattle.std.specs.List.{filter}
use Rattle.tz_script.specs.declared.operation.Operation.{Operation}
use Rattle.tz_version.specs.declared.sources.Sources.{Sources}
use Rattle.tz_version.specs.Release.{Release}
use Rattle.pin_core.specs.declared.view.View.{View}
use Rattle.pin_table.specs.Reader.{reader_view}
use Rattle.pin_table.specs.declared.sitting.Plan.{Plan}
use Rattle.tz_batch.specs.Batch.{each_answered}
use Rattle.tz_batch.specs.declared.reply.Reply.{Reply}
use Rattle.tz_lane.specs.Lane.{RunsLane}
use Rattle.tz_rounds.specs.Sending.{OwnsOnly}
use Rattle.tz_rounds.specs.declared.joining.LaneRun.{LaneRun}

-- the operations of a lane among these
abbrev pub lane_part : ℕ → List Operation → List Operation
lane_part lane operations = filter (λ (operation : Operation). operation.lane == lane) operations

-- what the reader of a run knows
abbrev pub back_view : LaneRun → View
back_view run = reader_view run.reader

-- The reader of a number, which knew `out`, came back with these replies to the operations of its lane, one to each, and
-- knows `back` now.
pub record RanPart (plan : Plan Release) (sources : Sources) (operations : List Operation) (number : ℕ) (out : View) (replies : List Reply) (back : View) : Type 0 where
  pub lines : map (λ (reply : Reply). reply.line) replies
      ≡ map (λ (operation : Operation). operation.line) (lane_part (number + 1) operations)
  pub runs : RunsLane plan sources number out (each_answered (lane_part (number + 1) operations) replies) back

-- the reader can be joined as that of a number: it holds nothing, and has written by that number alone
pub record IsJoinable (number : ℕ) (back : View) : Type 0 where
  pub numbers : back.numbers ≡ number ∷ []
  pub entries : back.entries ≡ []
  pub own : OwnsOnly number back
