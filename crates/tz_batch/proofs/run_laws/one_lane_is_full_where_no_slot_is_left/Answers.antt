use Rattle.std.proofs.Common.{◌-◌, ⊎_elim, inl, inr, subst, IsTrue}
use Rattle.pin_book.specs.Replay.{is_slot_listed}
use Rattle.tz_batch.specs.Laws.{batch_of}
use Rattle.tz_batch.specs.PassedOver.{IsHeldSlot, MayBeHeld}
use Rattle.tz_batch.specs.Round.{round_of, list_at}
use Rattle.tz_batch.specs.Run.{PassesOver}
use Rattle.tz_batch.specs.declared.answer.Answer.{Answer}
use Rattle.tz_batch.proofs.LanePositions.{both}
use Rattle.tz_batch.proofs.run_laws.one_lane_is_full_where_no_slot_is_left.Goals as goal

pub returns-clause-full : goal.returns-clause-full
returns-clause-full c script sources slots outcome run one before later here is full slot inside =
    let round = round_of (batch_of script sources slots outcome) here.operation.round in
    let w = here.reply.w in
    let P : Answer → Type 0 = λ answer. PassesOver round before (both here.operation (record { line = here.reply.line; w = w; answer = answer })) in
    ⊎_elim
    (λ (listed : IsTrue (is_slot_listed slot (list_at round w).listed)). inl listed)
    (λ (may : MayBeHeld round (IsHeldSlot round before here.operation) w slot). inr (may.0 one))
    (subst P full (run.pushes before later here is) slot inside)

pub returns-clause-pushed : goal.returns-clause-pushed
returns-clause-pushed c script sources slots outcome run one before later here is n slot pushed taken =
    let round = round_of (batch_of script sources slots outcome) here.operation.round in
    let w = here.reply.w in
    let P : Answer → Type 0 = λ answer. PassesOver round before (both here.operation (record { line = here.reply.line; w = w; answer = answer })) in
    (subst P pushed (run.pushes before later here is)).exact one
    (λ other inside.
    ⊎_elim
    (λ (listed : IsTrue (is_slot_listed other (list_at round (w - 1)).listed)). inl listed)
    (λ (held : IsHeldSlot round before here.operation other). inr ((λ single. held), (λ several. absurd (several one))))
    (taken other inside))
