use Rattle.std.proofs.Common.{◌∙◌, ap, arith}
use Rattle.pin_table.specs.Seat.{plan_of}
use Rattle.pin_table.proofs.PinMoves.{adds_pin}
use Rattle.pin_table.proofs.steps.add_pin.Goals as goal

pub fetch_add-requires : goal.fetch_add-requires
fetch_add-requires g c = let own = c.requires.own in let words = c.args.table.now.words in let inside = c.requires.inside in let word = c.slot_word.ensures in (
  own.table_id,
  omega arith,
  rw word (adds_pin g.P.Payload.home g.P.Payload.source g.P.Payload.name_of (plan_of c.args.table.now.base.shared.key) _ _ c.args.number c.args.slot _ own.plan_is c.requires.reader c.requires.may c.requires.front),
)

pub returns-clause-own : goal.returns-clause-own
returns-clause-own g c = let own = c.requires.own in let told = c.fetch_add.ensures.2 (plan_of c.args.table.now.base.shared.key) c.args.number own.plan_is c.requires.reader in
    record { table_id = c.fetch_add.ensures.0 ∙ own.table_id; plan_is = ap (λ x. x.plan) told.view ∙ own.plan_is }

pub returns-clause-added : goal.returns-clause-added
returns-clause-added g c = c.fetch_add.ensures.2 (plan_of c.args.table.now.base.shared.key) c.args.number c.requires.own.plan_is c.requires.reader
