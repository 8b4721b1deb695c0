use Rattle.std.proofs.Common.{◌<◌, subst, sym, length}
use Rattle.pin_core.specs.declared.view.View.{View}
use Rattle.pin_table.specs.declared.reader.TheConstants.{MOST_HANDLES}
use Rattle.pin_table.proofs.CallLemmas.{look_keeps, pin_keeps}
use Rattle.pin_table.proofs.FrontLemmas.{missed_again}
use Rattle.pin_table.proofs.reader.Reader.front.Goals as goal

pub loop-handle-preserved : goal.loop-handle-preserved
loop-handle-preserved g c = let missed = c.try_pin.ensures.missed c.in_default.is in
    (missed_again _ c.loop-handle.self c.try_pin.new.self c.loop-handle.invariant.0 missed, subst (λ (v : View). length v.entries < MOST_HANDLES) (sym missed.view) c.loop-handle.invariant.1)

pub returns-in-Some-clause-handles : goal.returns-in-Some-clause-handles
returns-in-Some-clause-handles g c handle made =
    pin_keeps g.P.Payload.home g.P.Payload.source c.look.new.self c.loop-handle.self c.try_pin.new.self c.in-Some.handle c.loop-handle.invariant.0 c.in-Some.ensures.pinned handle
    (look_keeps g.P.Payload.home g.P.Payload.source c.args.self.now c.look.new.self c.look.result c.look.ensures.looks handle made)
