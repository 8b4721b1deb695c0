use Rattle.std.proofs.Common.{arith}
use Rattle.pin_table.specs.Seat.{plan_of}
use Rattle.pin_table.proofs.TurnMoves.{gives_turn}
use Rattle.pin_table.proofs.steps.give_turn.Goals as goal

pub store-requires : goal.store-requires
store-requires g c = let own = c.requires.own in let words = c.args.table.now.words in (
  own.table_id,
  omega arith,
  gives_turn g.P.Payload.home g.P.Payload.source g.P.Payload.name_of (plan_of c.args.table.now.base.shared.key) _ _ c.args.number _ c.requires.reader c.requires.may c.requires.book,
)
