use Rattle.std.proofs.Common.{◌≡◌, ◌+◌, All, length}
use Rattle.pin_table.specs.Main.{main_view}
use Rattle.pin_table.specs.Table.{IsMainOf}
use Rattle.tz_rounds.specs.Jobs.{lane_changes, AreJobs}
use Rattle.tz_rounds.specs.Sending.{HasSent}
use Rattle.tz_rounds.specs.declared.sending.LaneJob.{LaneJob}
use Rattle.tz_rounds.proofs.Sums.{sum_below}
use Rattle.tz_rounds.proofs.sending.send_out.Given as goal

abbrev pub invariant-loop-place : goal.invariant-loop-place
invariant-loop-place l = record {
  own : IsMainOf l.table l.main;
  left : HasSent l.place l.lanes (main_view l.initial.main) (main_view l.main);
  many : length l.jobs.items ≡ l.place;
  jobs : AreJobs l.operations (main_view l.initial.main) l.jobs.items;
  tables : All (λ (job : LaneJob). job.reader.table.now ≡ l.table) l.jobs.items;
  allowance : (main_view l.main).allowance + sum_below (λ number. lane_changes (number + 1) l.operations) l.place ≡ (main_view l.initial.main).allowance;
}
