use Rattle.std.proofs.Common.{◌∙◌, arith}
use Rattle.pin_table.specs.Seat.{plan_of}
use Rattle.pin_table.proofs.TurnMoves.{tries_turn}
use Rattle.pin_table.proofs.PlayLemmas.{tried_plan}
use Rattle.pin_table.proofs.steps.try_turn.Goals as goal

pub compare_exchange-requires : goal.compare_exchange-requires
compare_exchange-requires g c = let own = c.requires.own in let words = c.args.table.now.words in let turn = c.pack_turn.ensures in (
  own.table_id,
  omega arith,
  rw turn (tries_turn g.P.Payload.home g.P.Payload.source g.P.Payload.name_of (plan_of c.args.table.now.base.shared.key) _ _ c.args.number _ own.plan_is c.requires.reader c.requires.may),
)

pub returns-clause-own : goal.returns-clause-own
returns-clause-own g c = let own = c.requires.own in let told = c.compare_exchange.ensures.2 (plan_of c.args.table.now.base.shared.key) c.args.number own.plan_is c.requires.reader in
    record { table_id = c.compare_exchange.ensures.0 ∙ own.table_id; plan_is = tried_plan g.P.Payload.home g.P.Payload.name_of _ _ _ _ _ told ∙ own.plan_is }
