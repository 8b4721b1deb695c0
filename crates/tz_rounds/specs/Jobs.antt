-- The readers of a round, each with its lane.
use Rattle.std.specs.Prelude.{◌≡◌, ℕ, ◌+◌, ◌==◌, ◌&&◌, List, count_by, Some, slice_get}
use Rattle.tz_script.specs.Operation.{is_change}
use Rattle.tz_script.specs.declared.operation.Operation.{Operation}
use Rattle.pin_core.specs.declared.view.View.{View}
use Rattle.pin_table.specs.Reader.{reader_view}
use Rattle.tz_rounds.specs.Sending.{GoesOut}
use Rattle.tz_rounds.specs.declared.sending.LaneJob.{LaneJob}

-- how many of these operations are reloads or erasures of the lane
abbrev pub lane_changes : ℕ → List Operation → ℕ
lane_changes lane operations =
    count_by (λ (operation : Operation). (operation.lane == lane) && is_change operation.op) operations

-- the job of the lane of a number, whose reader went out from a main that knew this, with so many writes
pub record IsJob (operations : List Operation) (main : View) (number : ℕ) (job : LaneJob) : Type 0 where
  pub lane : job.lane ≡ number + 1
  pub number_is : job.reader.number ≡ number
  pub out : GoesOut number (lane_changes (number + 1) operations) main (reader_view job.reader)

-- jobs of the lanes from the first one on
abbrev pub AreJobs : List Operation → View → List LaneJob → Type 0
AreJobs operations main jobs =
    (number : ℕ) (job : LaneJob) → slice_get jobs number ≡ Some job → IsJob operations main number job
