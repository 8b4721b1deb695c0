-- What the jobs of a round come to, each run in a thread of its own.
use Rattle.std.specs.Prelude.{◌≡◌, ◌+◌, ◌≤◌, List, [], IfOk}
use Rattle.tz_script.specs.declared.operation.Operation.{Operation}
use Rattle.tz_version.specs.declared.sources.Sources.{Sources}
use Rattle.tz_version.specs.Release.{Release}
use Rattle.pin_table.specs.Reader.{reader_view}
use Rattle.pin_table.specs.declared.sitting.Plan.{Plan}
use Rattle.tz_rounds.specs.Backs.{back_view, RanPart}
use Rattle.tz_rounds.specs.Jobs.{lane_changes}
use Rattle.tz_rounds.specs.declared.joining.LaneRun.{LaneRun}
use Rattle.tz_rounds.specs.declared.sending.LaneJob.{LaneJob}

-- The job can be run over these operations: its reader is that of its lane, holds nothing, and may make the lane's writes.
pub record IsReady (operations : List Operation) (job : LaneJob) : Type 0 where
  pub lane : job.lane ≡ job.reader.number + 1
  pub free : (reader_view job.reader).entries ≡ []
  pub room : lane_changes job.lane operations ≤ (reader_view job.reader).allowance

-- The job's reader has run its lane over these operations, and came back: it holds nothing, and unless memory ran out it
-- answered them.
pub record HasRunJob (plan : Plan Release) (sources : Sources) (operations : List Operation) (job : LaneJob) (run : LaneRun) : Type 0 where
  pub number : run.reader.number ≡ job.reader.number
  pub table : run.reader.table.now ≡ job.reader.table.now
  pub free : (back_view run).entries ≡ []
  pub ran : IfOk run.replies (λ replies. RanPart plan sources operations job.reader.number (reader_view job.reader) replies (back_view run))
