-- One reader after another goes out.
use Rattle.std.proofs.Common.{◌≡◌, suc, ◌+◌, ◌≤◌, All, List, [], ◌∷◌, length, refl, sym, ap, subst, arith, length-append}
use Rattle.std.proofs.lemmas.List.Elements.{All-push}
use Rattle.pin_table.specs.Main.{main_view}
use Rattle.tz_rounds.specs.Jobs.{lane_changes, AreJobs}
use Rattle.tz_rounds.specs.declared.sending.LaneJob.{LaneJob}
use Rattle.tz_rounds.proofs.Sums.{sum_next}
use Rattle.tz_rounds.proofs.Jobs.{changes_by_lane, sent_more}
use Rattle.tz_rounds.proofs.sending.send_out.Goals as goal

pub split-requires-clause-room : goal.split-requires-clause-room
split-requires-clause-room c κs =
    omega (arith, c.changes_of-writes.ensures, c.loop-place.invariant.allowance, changes_by_lane (suc c.loop-place.place) c.args.operations.now, c.requires.room)

pub loop-place-preserved : goal.loop-place-preserved
loop-place-preserved c =
    let now = c.loop-place.invariant in
    let operations = c.args.operations.now in
    let room : c.changes_of-writes.result ≤ (main_view c.loop-place.main).allowance =
    omega (arith, c.changes_of-writes.ensures, now.allowance, changes_by_lane (suc c.loop-place.place) operations, c.requires.room) in
    let more = sent_more c.loop-place.place c.args.lanes _ c.changes_of-writes.result operations (main_view c.args.main.now) (main_view c.loop-place.main) (main_view c.split.new.self) c.loop-place.jobs.items
    (record { lane = c.loop-place.place + 1; reader = c.in-Ok.reader })
    c.requires.lanes now.left now.jobs now.many c.loop-place-test.true c.changes_of-writes.ensures room c.in-Ok.ensures.parted refl in
    record {
      own = c.split.ensures.own;
      left = more.left;
      many = omega (arith, ap (λ (jobs : List LaneJob). length jobs) c.in_ok-push.ensures.items, length-append c.loop-place.jobs.items (record { lane = c.loop-place.place + 1; reader = c.in-Ok.reader } ∷ []), now.many);
      jobs = subst (AreJobs operations (main_view c.args.main.now)) (sym c.in_ok-push.ensures.items) more.jobs_are;
      tables = subst (All (λ (job : LaneJob). job.reader.table.now ≡ c.args.table.now)) (sym c.in_ok-push.ensures.items)
          (All-push (λ (job : LaneJob). job.reader.table.now ≡ c.args.table.now) c.loop-place.jobs.items (record { lane = c.loop-place.place + 1; reader = c.in-Ok.reader }) now.tables c.in-Ok.ensures.table);
      allowance = omega (arith, more.allowance, now.allowance, sum_next (λ number. lane_changes (number + 1) operations) c.loop-place.place);
    }

pub returns-clause-room : goal.returns-clause-room
returns-clause-room c =
    omega (arith, c.loop-place.invariant.allowance, changes_by_lane c.loop-place.place c.args.operations.now)
