use Rattle.std.proofs.Common.{◌∙◌, ap, arith}
use Rattle.pin_core.specs.Packing.{packed_front}
use Rattle.pin_table.specs.Seat.{plan_of}
use Rattle.pin_table.proofs.StoreMoves.{stores_push}
use Rattle.pin_table.proofs.PlayLemmas.{push_is}
use Rattle.pin_table.proofs.steps.store_push_as.Goals as goal

pub store-requires : goal.store-requires
store-requires g c =
    let own = c.requires.own in let words = c.args.table.now.words in let picked = c.requires.picked in let front = c.requires.front in
    let word = c.pack_front-word.ensures ∙ (λ i. packed_front record { w = front.w i; n = front.n i; slot = front.slot i }) in
    let push = push_is g.P.Payload.home g.P.Payload.source (plan_of c.args.table.now.base.shared.key) c.args.write.change _ c.requires.push in (
      own.table_id,
      omega arith,
      rw (word, ← picked) (stores_push g.P.Payload.home g.P.Payload.source g.P.Payload.name_of (plan_of c.args.table.now.base.shared.key) _ _ c.args.number push.0 push.1 push.2 c.args.write _ c.requires.reader c.requires.may own.plan_is push.3 push.4),
    )

pub returns-clause-own : goal.returns-clause-own
returns-clause-own g c = let own = c.requires.own in let told = c.store.ensures.2 (plan_of c.args.table.now.base.shared.key) c.args.number own.plan_is c.requires.reader in
    record { table_id = c.store.ensures.0 ∙ own.table_id; plan_is = ap (λ x. x.0.plan) told ∙ own.plan_is }

pub returns-clause-stored : goal.returns-clause-stored
returns-clause-stored g c = let picked = c.requires.picked in rw picked (c.store.ensures.2 (plan_of c.args.table.now.base.shared.key) c.args.number c.requires.own.plan_is c.requires.reader)
