use Rattle.std.proofs.Common.{◌<◌, ◌≤◌, arith, subst}
use Rattle.pin_core.specs.Core.{has_number}
use Rattle.pin_table.specs.Seat.{plan_of}
use Rattle.pin_table.proofs.PartingLemmas.{splits_kept}
use Rattle.pin_table.proofs.parting.part_as.Goals as goal

pub split_seat-requires : goal.split_seat-requires
split_seat-requires g c = let own = c.requires.own in let words = c.args.table.now.words in let picked = c.requires.picked in (
  own.table_id,
  omega arith,
  splits_kept g.P.Payload.home g.P.Payload.source g.P.Payload.name_of (plan_of c.args.table.now.base.shared.key) _ g.W.Parting.number g.W.Parting.writes _ own.plan_is c.requires.main
      (subst (λ n. 0 < has_number n c.args.seat.now.me.0.core) picked.0 c.requires.mine) (subst (λ n. n ≤ c.args.seat.now.me.0.core.allowance) picked.1 c.requires.room),
)
