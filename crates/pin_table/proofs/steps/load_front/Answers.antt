use Rattle.std.proofs.Common.{◌∙◌, ap, arith}
use Rattle.pin_table.specs.Seat.{plan_of}
use Rattle.pin_table.proofs.FrontLoads.{loads_front}
use Rattle.pin_table.proofs.steps.load_front.Goals as goal

pub load-requires : goal.load-requires
load-requires g c = let own = c.requires.own in let words = c.args.table.now.words in (
  own.table_id,
  omega arith,
  loads_front g.P.Payload.home g.P.Payload.source g.P.Payload.name_of (plan_of c.args.table.now.base.shared.key) _ _ c.args.number _ own.plan_is c.requires.reader,
)

pub returns-clause-own : goal.returns-clause-own
returns-clause-own g c = let own = c.requires.own in let told = c.load.ensures.2 (plan_of c.args.table.now.base.shared.key) c.args.number own.plan_is c.requires.reader in
    record { table_id = c.load.ensures.0 ∙ own.table_id; plan_is = ap (λ x. x.0.plan) told.seat ∙ own.plan_is }
