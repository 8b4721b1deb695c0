use Rattle.std.proofs.Common.{◌∙◌, ap, arith}
use Rattle.pin_table.specs.Seat.{plan_of}
use Rattle.pin_table.proofs.MeetLemmas.{meets_kept, met_by_test, met_as_joined, told_by_test}
use Rattle.pin_table.proofs.parting.meet.Goals as goal

pub join_seat-requires : goal.join_seat-requires
join_seat-requires g c = let own = c.requires.own in let words = c.args.table.now.words in let reader = c.requires.reader in (
  own.0.table_id,
  own.1.table_id,
  c.requires.carried,
  omega arith,
  meets_kept g.P.Payload.home g.P.Payload.source g.P.Payload.name_of (plan_of c.args.table.now.base.shared.key) _ _ _ _ own.0.plan_is c.requires.main reader.0 reader.1 reader.2,
)

pub returns-clause-alike : goal.returns-clause-alike
returns-clause-alike g c = let old = c.args.seat.now.me.0 in let other = c.args.other.me.0 in
    told_by_test old.core.seen other.core.seen (met_by_test old other c.join_seat.new.seat.me.0 (ap (λ m. m.0) c.join_seat.ensures.2) c.weigh.ensures.small)

pub returns-clause-both : goal.returns-clause-both
returns-clause-both g c = let old = c.args.seat.now.me in let other = c.args.other.me.0 in
    let passed = met_by_test old.0 other c.join_seat.new.seat.me.0 (ap (λ m. m.0) c.join_seat.ensures.2) c.weigh.ensures.small in
    c.weigh.ensures.same.2 ∙ c.join_seat.ensures.2 ∙ ap (λ v. (v, old.1)) (met_as_joined old.0 other passed)
