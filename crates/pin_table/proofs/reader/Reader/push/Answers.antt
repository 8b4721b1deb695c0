use Rattle.std.proofs.Common.{refl, ◌∙◌, subst}
use Rattle.pin_table.specs.Reader.{reader_view}
use Rattle.pin_table.specs.Table.{plan}
use Rattle.pin_table.specs.Turns.{RefusesPush}
use Rattle.pin_table.proofs.WaitLemmas.{not_yet, once_more}
use Rattle.pin_table.proofs.reader.Reader.push.Goals as goal

pub loop-init : goal.loop-init
loop-init g c = ((tt, tt), not_yet (reader_view c.args.self.now), refl, refl, refl)

pub loop-preserved : goal.loop-preserved
loop-preserved g c = let inv = c.loop.invariant in let refused = c.in-Err.ensures.refused in
    let met = subst (RefusesPush g.P.Payload.home g.P.Payload.source g.P.Payload.name_of (plan c.loop.self.table.now) c.loop.self.number (reader_view c.loop.self) (reader_view c.try_push.new.self) c.loop.in_hand.version) c.in-Busy.is refused.0 in (
      (tt, tt),
      once_more (plan c.loop.self.table.now) c.loop.self.number c.in-Busy.holder (reader_view c.args.self.now) (reader_view c.loop.self) (reader_view c.try_push.new.self) inv.1 met,
      c.try_push.ensures.table ∙ inv.2,
      c.try_push.ensures.number ∙ inv.3,
      refused.1 ∙ inv.4,
    )
