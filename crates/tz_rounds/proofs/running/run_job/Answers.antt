-- A job runs its lane.
use Rattle.std.proofs.Common.{List, ap, arith}
use Rattle.pin_table.specs.Reader.{reader_view}
use Rattle.pin_table.specs.Table.{plan}
use Rattle.tz_batch.specs.declared.reply.Reply.{Reply}
use Rattle.tz_batch.specs.Batch.{each_answered}
use Rattle.tz_lane.specs.Lane.{RunsLane, lane_operations, round_operations}
use Rattle.tz_rounds.specs.Backs.{RanPart}
use Rattle.tz_rounds.specs.RoundRun.{HaveLines}
use Rattle.tz_rounds.proofs.LaneParts.{changes_in_lane, part_ran, both_ok}
use Rattle.tz_rounds.proofs.running.run_job.Goals as goal

pub run_lane-replies-requires-clause-allowance : goal.run_lane-replies-requires-clause-allowance
run_lane-replies-requires-clause-allowance g c κs within =
    omega (arith, c.requires.ready.room, changes_in_lane c.args.job.lane c.args.round c.args.script.now.operations)

pub returns : goal.returns
returns g c = record {
  number = c.run_lane-replies.ensures.number;
  table = c.run_lane-replies.ensures.table;
  free = c.run_lane-replies.ensures.free;
  ran = both_ok (HaveLines (lane_operations c.args.job.lane c.args.round c.args.script.now.operations))
      (λ (replies : List Reply). RunsLane (plan c.args.job.reader.table.now) c.args.list.now.sources c.args.job.reader.number (reader_view c.args.job.reader) (each_answered (lane_operations c.args.job.lane c.args.round c.args.script.now.operations) replies) (reader_view c.run_lane-replies.new.reader))
      (λ (replies : List Reply). RanPart (plan c.args.list.now.table) c.args.list.now.sources (round_operations c.args.round c.args.script.now.operations) c.args.job.reader.number (reader_view c.args.job.reader) replies (reader_view c.run_lane-replies.new.reader))
      c.run_lane-replies.result
      (λ (replies : List Reply) lines runs. part_ran (plan c.args.list.now.table) (plan c.args.job.reader.table.now) c.args.list.now.sources c.args.job.lane c.args.job.reader.number c.args.round c.args.script.now.operations
      (reader_view c.args.job.reader) (reader_view c.run_lane-replies.new.reader) replies (ap plan c.requires.of_list) c.requires.ready.lane lines runs)
      c.run_lane-replies.ensures.lines c.run_lane-replies.ensures.runs;
}
