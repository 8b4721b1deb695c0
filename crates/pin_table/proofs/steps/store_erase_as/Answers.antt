use Rattle.std.proofs.Common.{◌∙◌, arith}
use Rattle.pin_core.specs.Packing.{packed_front}
use Rattle.pin_table.specs.Seat.{plan_of}
use Rattle.pin_table.proofs.StoreMoves.{stores_erase}
use Rattle.pin_table.proofs.PlayLemmas.{erase_is}
use Rattle.pin_table.proofs.steps.store_erase_as.Goals as goal

pub store-requires : goal.store-requires
store-requires g c =
    let own = c.requires.own in let words = c.args.table.now.words in let picked = c.requires.picked in let front = c.requires.front in
    let word = c.pack_front-word.ensures ∙ (λ i. packed_front record { w = front.w i; n = front.n i; slot = front.slot i }) in
    let erase = erase_is c.args.write.change c.requires.erase in (
      own.table_id,
      omega arith,
      rw (word, ← picked) (stores_erase g.P.Payload.home g.P.Payload.source g.P.Payload.name_of (plan_of c.args.table.now.base.shared.key) _ _ c.args.number erase.0 erase.1 c.args.write _ c.requires.reader c.requires.may erase.2),
    )
