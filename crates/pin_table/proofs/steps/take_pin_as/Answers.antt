use Rattle.std.proofs.Common.{◌∙◌, ap, arith}
use Rattle.pin_table.specs.Seat.{plan_of}
use Rattle.pin_table.proofs.PinMoves.{takes_pin}
use Rattle.pin_table.proofs.steps.take_pin_as.Goals as goal

pub fetch_sub-requires : goal.fetch_sub-requires
fetch_sub-requires g c = let own = c.requires.own in let words = c.args.table.now.words in let inside = c.requires.inside in let word = c.slot_word.ensures in let picked = c.requires.picked in (
  own.table_id,
  omega arith,
  rw (word, ← picked.0, ← picked.1) (takes_pin g.P.Payload.home g.P.Payload.source g.P.Payload.name_of (plan_of c.args.table.now.base.shared.key) _ _ c.args.number c.args.place c.args.entry _ own.plan_is c.requires.reader c.requires.may c.requires.home),
)

pub returns-clause-own : goal.returns-clause-own
returns-clause-own g c = let own = c.requires.own in let told = c.fetch_sub.ensures.2 (plan_of c.args.table.now.base.shared.key) c.args.number own.plan_is c.requires.reader in
    record { table_id = c.fetch_sub.ensures.0 ∙ own.table_id; plan_is = ap (λ x. x.plan) told.view ∙ own.plan_is }

pub returns-clause-taken : goal.returns-clause-taken
returns-clause-taken g c = let picked = c.requires.picked in rw (picked.0, picked.1) (c.fetch_sub.ensures.2 (plan_of c.args.table.now.base.shared.key) c.args.number c.requires.own.plan_is c.requires.reader)
