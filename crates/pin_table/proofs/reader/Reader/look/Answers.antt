use Rattle.std.proofs.Common.{refl, ap, sym, subst}
use Rattle.pin_core.specs.declared.view.View.{View}
use Rattle.pin_table.specs.Handles.{AreAllHeld}
use Rattle.pin_table.specs.Table.{plan}
use Rattle.pin_table.specs.Reader.{reader_view}
use Rattle.pin_table.proofs.CallLemmas.{handle_kept, load_keeps}
use Rattle.pin_table.proofs.PlaceLemmas.{all_hold}
use Rattle.pin_table.proofs.reader.Reader.look.Goals as goal

pub invariant_of-self-clause-handles : goal.invariant_of-self-clause-handles
invariant_of-self-clause-handles g c =
    let old = c.args.self.now in let found = c.load-found.ensures.loaded in let how = plan old.table.now in
    subst (λ (v : View). AreAllHeld how.slots v) (sym (ap (λ m. m.0.core) found.seat)) (all_hold how.slots how.room old.number old.hand.seat.me.0.core found.journal found.goes_on old.handles)

pub returns-clause-handles : goal.returns-clause-handles
returns-clause-handles g c =
    let old = c.args.self.now in let found = c.load-found.ensures.loaded in let how = plan old.table.now in
    let later = c.load-found.new.self.seat.me.0.core in let is = ap (λ m. m.0.core) found.seat in
    handle_kept g.P.Payload.home g.P.Payload.source how how (reader_view old) later refl (load_keeps (reader_view old) later found.journal is found.goes_on.grows)
    (subst (λ (v : View). AreAllHeld how.slots v) (sym is) (all_hold how.slots how.room old.number old.hand.seat.me.0.core found.journal found.goes_on old.handles))
