use Rattle.std.proofs.Common.{◌≡◌, ◌<◌, ◌+◌, ◌∙◌, ◌++◌, ◌∷◌, [], length, ap, sym, subst, arith, true, refl}
use Rattle.std.specs.Arc.{arc_value}
use Rattle.std.specs.List.{Contains}
use Rattle.std.proofs.lemmas.List.{take_all}
use Rattle.std.proofs.lemmas.List.Elements.{Contains-push}
use Rattle.pin_book.specs.Replay.{front_number, front_slot}
use Rattle.pin_core.specs.declared.entry.Entry.{Entry}
use Rattle.pin_core.specs.declared.view.View.{View}
use Rattle.pin_core.specs.Core.{IsReader}
use Rattle.pin_core.specs.Lawful.{entry_number}
use Rattle.pin_table.specs.Handles.{AreAllHeld, HoldsFront, IsOf, entry_source}
use Rattle.pin_table.specs.Table.{plan}
use Rattle.pin_table.proofs.PlaceLemmas.{all_hold}
use Rattle.pin_table.proofs.HandleMoves.{added, added_holds, added_source}
use Rattle.pin_table.proofs.HandPins.{same_entry}
use Rattle.pin_table.proofs.FrontLemmas.{may_pin, held_with}
use Rattle.pin_table.proofs.reader.Reader.try_pin.Goals as goal

pub pin-requires-clause-may : goal.pin-requires-clause-may
pin-requires-clause-may g c κs within = let old = c.args.self.now in let room = c.requires.room in may_pin (plan old.table.now).slots old.hand.seat.me.0.core old.handles (omega arith)

pub invariant_of-self-clause-handles : goal.invariant_of-self-clause-handles
invariant_of-self-clause-handles g c =
    let old = c.args.self.now in let how = plan old.table.now in let v = old.hand.seat.me.0.core in let few = old.table.now.sizes in let least = few.some_slots in let some : 0 < how.slots = (omega arith) in
    subst (λ (w : View). AreAllHeld how.slots w) (sym (ap (λ w. w.core) c.in-Ok.ensures.pinned.view)) (held_with how.slots v.seen v.entries (added how.slots v some c.requires.replay) old.handles (added_holds how.slots v some c.requires.replay))

pub invariant_of-self-in-Err-clause-handles : goal.invariant_of-self-in-Err-clause-handles
invariant_of-self-in-Err-clause-handles g c =
    let old = c.args.self.now in let how = plan old.table.now in let found = c.in-Err.ensures.missed in
    subst (λ (v : View). AreAllHeld how.slots v) (sym (ap (λ w. w.core) found.view)) (all_hold how.slots how.room old.number old.hand.seat.me.0.core found.journal found.goes_on old.handles)

pub returns-in-Ok-clause-pinned : goal.returns-in-Ok-clause-pinned
returns-in-Ok-clause-pinned g c =
    let old = c.args.self.now in let how = plan old.table.now in let v = old.hand.seat.me.0.core in let few = old.table.now.sizes in let least = few.some_slots in let some : 0 < how.slots = (omega arith) in
    let new = added how.slots v some c.requires.replay in let holds = added_holds how.slots v some c.requires.replay in let view = ap (λ w. w.core) c.in-Ok.ensures.pinned.view in
    let handle : Entry = record { slot = old.seen.slot; position = old.seen.w; held = true } in
    let is : new ≡ handle = same_entry new old.seen.slot old.seen.w true (old.position.slot ∙ ap (λ k. front_slot k v.seen) old.table.now.made.0) old.position.w holds.held in
    let seen_same = ap (λ (w : View). w.seen) view in record {
      table = refl;
      view = view ∙ ap (λ (e : Entry). record v { entries = v.entries ++ e ∷ []; pins = v.pins + 1 }) is;
      position = old.position.w;
      made = record {
        reader = subst (IsReader old.number) (sym view) old.reader;
        pinned = subst (λ (w : View). Contains w.entries handle) (sym view) (subst (λ (e : Entry). Contains (v.entries ++ new ∷ []) e) is (Contains-push v.entries new));
        holds = subst (λ l. HoldsFront how.slots l handle) (sym seen_same) (subst (HoldsFront how.slots v.seen) is holds);
        number = old.position.n ∙ ap (λ k. front_number k v.seen) old.table.now.made.0 ∙ ap (front_number how.slots) (sym (take_all (length v.seen) v.seen (omega arith))) ∙ ap (entry_number how.slots v.seen) is ∙ ap (λ l. entry_number how.slots l handle) (sym seen_same);
        version = subst (λ src. IsOf g.P.Payload.home g.P.Payload.source (g.P.Payload.home how.first) src (arc_value c.in-Ok.version))
            (sym (added_source how.slots v some c.requires.replay) ∙ ap (entry_source how.slots v.seen) is ∙ ap (λ l. entry_source how.slots l handle) (sym seen_same)) c.in-Ok.ensures.pinned.copy;
      };
    }
