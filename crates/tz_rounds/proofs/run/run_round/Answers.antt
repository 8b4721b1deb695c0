-- One round.
use Rattle.std.proofs.Common.{◌≡◌, ℕ, List, ◌++◌, length, map, sym, ap, subst, ◌∙◌, arith}
use Rattle.std.specs.Prelude.{All}
use Rattle.std.proofs.lemmas.List.{length-map}
use Rattle.tz_script.specs.Inside.{change_count}
use Rattle.tz_script.specs.declared.operation.Operation.{Operation}
use Rattle.pin_table.specs.Main.{main_view}
use Rattle.pin_table.specs.Table.{plan}
use Rattle.tz_batch.specs.declared.reply.Reply.{Reply}
use Rattle.tz_lane.specs.Lane.{round_operations}
use Rattle.tz_rounds.specs.Backs.{back_view}
use Rattle.tz_rounds.specs.Jobs.{AreJobs}
use Rattle.tz_rounds.specs.Merging.{IsInLanes, AnswerLanes, AreMerged}
use Rattle.tz_rounds.specs.Running.{IsReady}
use Rattle.tz_rounds.specs.Sending.{HasNumbers, HasSent, HasBack}
use Rattle.tz_rounds.specs.declared.joining.LaneRun.{LaneRun}
use Rattle.tz_rounds.specs.declared.sending.LaneJob.{LaneJob}
use Rattle.tz_rounds.proofs.Joinable.{job_ready, comes_joinable}
use Rattle.tz_rounds.proofs.Lists.{slice_inside}
use Rattle.tz_rounds.proofs.Places.{there_at, all_placed, placed, then_ok}
use Rattle.tz_rounds.proofs.RoundRan.{round_stands, round_in_lanes, of_round, parts_many, parts_answer, ran_round}
use Rattle.tz_rounds.proofs.UpTo.{all_stand_in}
use Rattle.tz_rounds.proofs.run.run_round.Goals as goal

pub run_jobs-requires-clause-ready : goal.run_jobs-requires-clause-ready
run_jobs-requires-clause-ready g c κs within =
    let ro = round_operations c.args.round c.args.script.now.operations in
    let main = main_view c.args.main.now in
    let are : AreJobs ro main c.in_ok-jobs.jobs.items = subst (λ (those : List Operation). AreJobs those main c.in_ok-jobs.jobs.items) c.operations_in-operations.ensures.is c.in_ok-jobs.ensures.jobs in
    all_placed (IsReady ro) c.in_ok-jobs.jobs.items (λ number job there. job_ready ro main number job (are number job there))

pub take_back-requires-clause-table : goal.take_back-requires-clause-table
take_back-requires-clause-table g c =
    all_placed (λ (run : LaneRun). run.reader.table.now ≡ c.table-2.result.now) c.in_ok-runs.runs.items
    (λ number run there. let job = there_at c.in_ok-jobs.jobs.items number (let low = slice_inside c.in_ok-runs.runs.items number run there in omega (arith, low, c.in_ok-runs.ensures.many)) in
    (c.in_ok-runs.ensures.each number job.0 run job.1 there).table
    ∙ placed (λ (it : LaneJob). it.reader.table.now ≡ c.table.result.now) c.in_ok-jobs.jobs.items number job.0 c.in_ok-jobs.ensures.table job.1
    ∙ c.table.ensures ∙ sym c.table-2.ensures)

pub take_back-requires-clause-joinable : goal.take_back-requires-clause-joinable
take_back-requires-clause-joinable g c number run there ok =
    let ro = round_operations c.args.round c.args.script.now.operations in
    let main = main_view c.args.main.now in
    let are : AreJobs ro main c.in_ok-jobs.jobs.items = subst (λ (those : List Operation). AreJobs those main c.in_ok-jobs.jobs.items) c.operations_in-operations.ensures.is c.in_ok-jobs.ensures.jobs in
    let job = there_at c.in_ok-jobs.jobs.items number (let low = slice_inside c.in_ok-runs.runs.items number run there in omega (arith, low, c.in_ok-runs.ensures.many)) in
    comes_joinable (plan c.args.list.now.table) c.args.list.now.sources ro main number job.0 run (are number job.0 job.1) (c.in_ok-runs.ensures.each number job.0 run job.1 there) ok

pub merge-requires-clause-lanes : goal.merge-requires-clause-lanes
merge-requires-clause-lanes g c =
    let script = c.args.script.now in
    let ro = round_operations c.args.round script.operations in
    let main = main_view c.args.main.now in
    let are : AreJobs ro main c.in_ok-jobs.jobs.items = subst (λ (those : List Operation). AreJobs those main c.in_ok-jobs.jobs.items) c.operations_in-operations.ensures.is c.in_ok-jobs.ensures.jobs in
    let many : length c.in_ok-parts.parts.items ≡ script.lanes =
    parts_many (plan c.args.list.now.table) c.args.list.now.sources ro main c.in_ok-jobs.jobs.items c.in_ok-runs.runs.items c.in_ok-parts.parts.items c.in_ok-runs.ensures.many are c.in_ok-runs.ensures.each c.in_ok-parts.ensures.replies
    ∙ c.in_ok-jobs.ensures.many in
    subst (All (IsInLanes (length c.in_ok-parts.parts.items))) (sym c.operations_in-operations.ensures.is)
    (round_in_lanes script.lanes script.rounds c.args.round script.operations (all_stand_in script.lanes script.rounds script.operations script.sound.inside) (length c.in_ok-parts.parts.items) many)

pub merge-requires-clause-lines : goal.merge-requires-clause-lines
merge-requires-clause-lines g c =
    let ro = round_operations c.args.round c.args.script.now.operations in
    let main = main_view c.args.main.now in
    let are : AreJobs ro main c.in_ok-jobs.jobs.items = subst (λ (those : List Operation). AreJobs those main c.in_ok-jobs.jobs.items) c.operations_in-operations.ensures.is c.in_ok-jobs.ensures.jobs in
    subst (λ (those : List Operation). AnswerLanes those c.in_ok-parts.parts.items) (sym c.operations_in-operations.ensures.is)
    (parts_answer (plan c.args.list.now.table) c.args.list.now.sources ro main c.in_ok-jobs.jobs.items c.in_ok-runs.runs.items c.in_ok-parts.parts.items c.in_ok-runs.ensures.many are c.in_ok-runs.ensures.each c.in_ok-parts.ensures.replies)

pub returns-clause-ran : goal.returns-clause-ran
returns-clause-ran g c =
    let script = c.args.script.now in
    let p = plan c.args.list.now.table in
    let ro = round_operations c.args.round script.operations in
    let main = main_view c.args.main.now in
    let back = main_view c.take_back.new.main in
    let jobs = c.in_ok-jobs.jobs.items in let runs = c.in_ok-runs.runs.items in let parts = c.in_ok-parts.parts.items in
    let are : AreJobs ro main jobs = subst (λ (those : List Operation). AreJobs those main jobs) c.operations_in-operations.ensures.is c.in_ok-jobs.ensures.jobs in
    let same : length runs ≡ length jobs = c.in_ok-runs.ensures.many in
    let lanes : length runs ≡ script.lanes = same ∙ c.in_ok-jobs.ensures.many in
    let sent : HasSent (length runs) (length runs) main (main_view c.send_out.new.main) =
    subst (λ (n : ℕ). HasSent n n main (main_view c.send_out.new.main)) (sym lanes) c.in_ok-jobs.ensures.left in
    let has_back : HasBack (length runs) main (map back_view runs) back = c.in_ok-parts.ensures.back main sent in
    let stands = all_stand_in script.lanes script.rounds script.operations script.sound.inside in
    then_ok c.merge.result
    (λ (made : (more : List Reply) × (c.merge.new.replies.items ≡ c.args.replies.now.items ++ more) × AreMerged c.operations_in-operations.result.now parts more).
    let merged : AreMerged ro parts made.0 = subst (λ (those : List Operation). AreMerged those parts made.0) c.operations_in-operations.ensures.is made.2 in
    record {
      more = made.0;
      behind = made.1;
      lines = merged.lines;
      ran = ran_round p c.args.list.now.sources ro main jobs runs parts same are c.in_ok-runs.ensures.each c.in_ok-parts.ensures.replies script.lanes script.rounds c.args.round back made.0 c.requires.lanes c.in_ok-jobs.ensures.many
          (round_stands script.lanes script.rounds c.args.round script.operations stands) (of_round c.args.round script.operations) has_back merged;
      numbers = subst (λ (n : ℕ). HasNumbers 0 n back) (length-map runs back_view ∙ lanes ∙ sym c.requires.lanes) has_back.numbers;
      room = omega (arith, c.in_ok-jobs.ensures.room, c.in_ok-parts.ensures.room, ap (λ (those : List Operation). change_count those) c.operations_in-operations.ensures.is);
    }) c.merge.ensures.merged
