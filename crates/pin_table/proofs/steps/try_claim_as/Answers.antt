use Rattle.std.proofs.Common.{◌∙◌, ap, arith}
use Rattle.pin_core.specs.Packing.{packed_slot}
use Rattle.pin_table.specs.Seat.{plan_of}
use Rattle.pin_table.proofs.ClaimMoves.{claims}
use Rattle.pin_table.proofs.PlayLemmas.{claim_plan}
use Rattle.pin_table.proofs.steps.try_claim_as.Goals as goal

pub compare_exchange-requires : goal.compare_exchange-requires
compare_exchange-requires g c =
    let own = c.requires.own in let words = c.args.table.now.words in let may = c.requires.may in let inside = may.inside in let word = c.slot_word.ensures in let picked = c.requires.picked in
    let old = c.pack_slot-unpinned.ensures ∙ ap (λ n. packed_slot record { number = n; count = 0 }) c.requires.kept in
    let new = c.pack_slot-claimed.ensures ∙ ap (λ n. packed_slot record { number = n; count = 0 }) c.requires.next in (
      own.table_id,
      omega arith,
      rw (word, old, new, ← picked) (claims g.P.Payload.home g.P.Payload.source g.P.Payload.name_of (plan_of c.args.table.now.base.shared.key) _ _ c.args.number c.args.slot _ own.plan_is c.requires.reader c.requires.may),
    )

pub returns-clause-own : goal.returns-clause-own
returns-clause-own g c = let own = c.requires.own in let told = c.compare_exchange.ensures.2 (plan_of c.args.table.now.base.shared.key) c.args.number own.plan_is c.requires.reader in
    record { table_id = c.compare_exchange.ensures.0 ∙ own.table_id; plan_is = claim_plan _ _ _ _ _ told ∙ own.plan_is }

pub returns-clause-tried : goal.returns-clause-tried
returns-clause-tried g c = let picked = c.requires.picked in rw picked (c.compare_exchange.ensures.2 (plan_of c.args.table.now.base.shared.key) c.args.number c.requires.own.plan_is c.requires.reader)
