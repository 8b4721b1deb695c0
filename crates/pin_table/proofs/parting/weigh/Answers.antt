use Rattle.std.proofs.Common.{arith}
use Rattle.pin_table.specs.Seat.{plan_of}
use Rattle.pin_table.proofs.PartingLemmas.{weighs}
use Rattle.pin_table.proofs.parting.weigh.Goals as goal

pub load-requires : goal.load-requires
load-requires g c = let own = c.requires.own in let words = c.args.table.now.words in (
  own.table_id,
  omega arith,
  weighs g.P.Payload.home g.P.Payload.source g.P.Payload.name_of (plan_of c.args.table.now.base.shared.key) _ _ _ _,
)
