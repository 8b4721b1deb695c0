use Rattle.std.proofs.Common.{subst}
use Rattle.tz_batch.specs.Laws.{batch_of}
use Rattle.tz_batch.specs.Round.{round_of}
use Rattle.tz_batch.specs.Run.{PassesOver}
use Rattle.tz_batch.specs.declared.answer.Answer.{Answer}
use Rattle.tz_batch.proofs.FullLists.{full_is_small}
use Rattle.tz_batch.proofs.LanePositions.{both, from_start}
use Rattle.tz_batch.proofs.run_laws.a_full_list_has_few_slots.Goals as goal

pub returns : goal.returns
returns c script sources slots outcome run several before later here is full =
    let batch = batch_of script sources slots outcome in
    let round = round_of batch here.operation.round in
    let P : Answer → Type 0 = λ answer. PassesOver round before (both here.operation (record { line = here.reply.line; w = here.reply.w; answer = answer })) in
    full_is_small round before here.operation here.reply.w run.replay several (from_start batch run.positions before later here is) (subst P full (run.pushes before later here is))
