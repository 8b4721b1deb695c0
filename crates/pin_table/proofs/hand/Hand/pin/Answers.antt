use Rattle.std.proofs.Common.{◌≢◌, ◌<◌, ◌/◌, ◌^◌, ◌∷◌, ◌∙◌, length, sym, ap, subst, arith, false, not, ◌==◌, refl, Some, ne_eqb}
use Rattle.std.proofs.lemmas.List.{length-map}
use Rattle.std.proofs.lemmas.Bool.{not-true, not-false}
use Rattle.std.specs.Arc.{arc_value}
use Rattle.std.specs.List.{list_any, remove}
use Rattle.pin_book.proofs.Journals.{front_slot_inside}
use Rattle.pin_book.specs.Replay.{front_number, front_slot}
use Rattle.pin_core.specs.declared.entry.Entry.{Entry}
use Rattle.pin_core.specs.Core.{times}
use Rattle.pin_core.specs.Packing.{place}
use Rattle.pin_core.specs.Step.{loaded, pinned, new_entry}
use Rattle.pin_table.specs.Carried.{slots_of}
use Rattle.pin_table.specs.Handles.{CarriesPlaces, HasCopyAt, CopyTaken, IsOf}
use Rattle.pin_table.specs.Plays.{PinTaken}
use Rattle.pin_table.specs.Seat.{knowing}
use Rattle.pin_table.specs.Table.{plan}
use Rattle.pin_table.proofs.StepLemmas.{for_reader}
use Rattle.pin_table.proofs.PlaceLemmas.{few_carried}
use Rattle.pin_table.proofs.HandleMoves.{added, added_holds, added_source, carried_once, has_copy, copy_is, carries_after_pin}
use Rattle.pin_table.proofs.HandPins.{missed, missed_carried, missed_places, all_counted, last_there, same_entry, first_taken, further_same, pin_carries}
use Rattle.pin_table.proofs.hand.Hand.pin.Goals as goal
use Rattle.pin_table.proofs.hand.Hand.pin.Goals.{then-is_first, else-is_first}

pub add_pin-found-requires-clause-inside : goal.add_pin-found-requires-clause-inside
add_pin-found-requires-clause-inside g c κs within =
    let how = plan c.args.table.now in let few = c.args.table.now.sizes in let some = few.some_slots in let at = c.requires.front.slot in
    let inside = front_slot_inside how.slots c.args.self.now.seat.me.0.core.seen (omega arith) c.requires.replay in omega arith

pub take_pin-requires-clause-may : goal.take_pin-requires-clause-may
take_pin-requires-clause-may g c κs within =
    let how = plan c.args.table.now in let v = c.args.self.now.seat.me.0.core in let shown = c.add_pin-found.result / 2 ^ 32 in let e = new_entry how.slots shown v in
    let other : shown ≢ front_number how.slots v.seen = λ is. c.if-found-seen.true (is ∙ sym c.requires.front.n) in
    let core = ap (λ m. m.0.core) c.load_front-word.ensures.loaded.seat ∙ ap (λ w. loaded c.load_front-word.ensures.loaded.journal w.core) c.add_pin-found.ensures.added.view in record {
      there = ap (λ w. Rattle.std.specs.Prelude.slice_get w.entries c.args.pins) core ∙ ap (Rattle.std.specs.Prelude.slice_get (pinned how.slots shown v).entries) c.requires.pins ∙ last_there v.entries e
          ∙ ap Some (same_entry e c.args.seen.slot c.args.seen.w false c.requires.front.slot c.requires.front.w (ne_eqb shown (front_number how.slots v.seen) other));
    }

pub take_pin-requires-clause-inside : goal.take_pin-requires-clause-inside
take_pin-requires-clause-inside g c κs within =
    let how = plan c.args.table.now in let few = c.args.table.now.sizes in let some = few.some_slots in let at = c.requires.front.slot in
    let inside = front_slot_inside how.slots c.args.self.now.seat.me.0.core.seen (omega arith) c.requires.replay in omega arith

pub invariant_of-self : goal.invariant_of-self
invariant_of-self g c =
    let how = plan c.args.table.now in let old = c.args.self.now in let number = c.args.number in let home = g.P.Payload.home in let source = g.P.Payload.source in
    let added = c.add_pin-found.ensures.added in let loads = c.load_front-word.ensures.loaded in let taken = c.take_pin.ensures.taken in
    let other : c.add_pin-found.result / 2 ^ 32 ≢ front_number how.slots old.seat.me.0.core.seen = λ is. c.if-found-seen.true (is ∙ sym c.requires.front.n) in
    let e : Entry = record { slot = c.args.seen.slot; position = c.args.seen.w; held = false } in
    let takes = subst (λ at. PinTaken home source how at e c.load_front-word.new.seat.me c.take_pin.result c.take_pin.new.seat.me) c.requires.pins taken in
    let carried = missed_carried home source how number old.seat.me c.add_pin-found.new.seat.me c.load_front-word.new.seat.me c.take_pin.new.seat.me c.add_pin-found.result c.load_front-word.result c.take_pin.result e added loads takes other refl in
    record {
      listed = old.listed ∙ ap slots_of (sym carried);
      places = for_reader how number c.take_pin.new.seat.me.0 (λ p r. CarriesPlaces home source p r c.take_pin.new.seat.me.0.core c.take_pin.new.seat.me.1) c.take_pin.ensures.own.plan_is
          (subst (λ w. Rattle.pin_core.specs.Core.IsReader number w.core) (sym (missed home source how number old.seat.me c.add_pin-found.new.seat.me c.load_front-word.new.seat.me c.take_pin.new.seat.me c.add_pin-found.result c.load_front-word.result c.take_pin.result e added loads takes other refl).view) c.requires.reader.1)
          (missed_places home source how number old.seat.me c.add_pin-found.new.seat.me c.load_front-word.new.seat.me c.take_pin.new.seat.me c.add_pin-found.result c.load_front-word.result c.take_pin.result e added loads takes other refl c.requires.held (old.places how number c.requires.own.plan_is c.requires.reader.1));
    }

pub returns-then-found-seen-clause-missed : goal.returns-then-found-seen-clause-missed
returns-then-found-seen-clause-missed g c =
    let how = plan c.args.table.now in let old = c.args.self.now in let home = g.P.Payload.home in let source = g.P.Payload.source in
    let other : c.add_pin-found.result / 2 ^ 32 ≢ front_number how.slots old.seat.me.0.core.seen = λ is. c.if-found-seen.true (is ∙ sym c.requires.front.n) in
    let e : Entry = record { slot = c.args.seen.slot; position = c.args.seen.w; held = false } in
    let takes = subst (λ at. PinTaken home source how at e c.load_front-word.new.seat.me c.take_pin.result c.take_pin.new.seat.me) c.requires.pins c.take_pin.ensures.taken in
    missed home source how c.args.number old.seat.me c.add_pin-found.new.seat.me c.load_front-word.new.seat.me c.take_pin.new.seat.me c.add_pin-found.result c.load_front-word.result c.take_pin.result e c.add_pin-found.ensures.added c.load_front-word.ensures.loaded takes other refl

pub take-requires : goal.take-requires
take-requires g c =
    let how = plan c.args.table.now in let old = c.args.self.now in let places = old.places how c.args.number c.requires.own.plan_is c.requires.reader.1 in
    let few = few_carried g.P.Payload.home g.P.Payload.source how c.args.number old.seat.me.0.core old.seat.me.1 places in let room = c.requires.may.room in
    let many = all_counted old.seat.me.0.core.entries (λ e among. (c.requires.held e among).held) in
    let same = ap (λ l. length l) old.listed ∙ length-map old.seat.me.1 (λ x. x.0) in omega arith

pub take_copy-requires-clause-listed : goal.take_copy-requires-clause-listed
take_copy-requires-clause-listed g c κs within =
    let how = plan c.args.table.now in let old = c.args.self.now in let v = old.seat.me.0.core in let few = c.args.table.now.sizes in let some = few.some_slots in
    let shown = c.if-found-seen.false ∙ c.requires.front.n in let small = c.requires.reader.0 in let slots : 0 < how.slots = (omega arith) in
    let number = c.args.number in let home = g.P.Payload.home in let source = g.P.Payload.source in
    let places = old.places how number c.requires.own.plan_is c.requires.reader.1 in
    let test = c.requires.first ∙ ap (λ n. not (list_any (λ (x : Entry). x.slot == n) v.entries)) c.requires.front.slot in
    elim c.if-is_first.branch [
      | then-is_first w ↦
          ap (λ x. x.1.1.0) w.self-is ∙ w.take.ensures ∙ ap (λ at. at ∷ old.carried) (c.place_of-place.ensures ∙ ap (λ n. place n number) c.requires.front.slot) ∙ ap (λ l. place (front_slot how.slots v.seen) number ∷ l) old.listed
          ∙ sym (first_taken home source how number (omega arith) old.seat.me c.add_pin-found.result c.add_pin-found.new.seat.me slots c.requires.replay c.requires.held places c.add_pin-found.ensures.added shown (not-true _ (sym test ∙ w.if-is_first.true)))
      | else-is_first w ↦
          ap (λ x. x.1.1.0) w.self-is ∙ old.listed
          ∙ ap slots_of (sym (further_same home source how number (omega arith) old.seat.me c.add_pin-found.result c.add_pin-found.new.seat.me slots c.requires.replay c.requires.held places c.add_pin-found.ensures.added shown (not-false _ (sym test ∙ w.if-is_first.false))))
    ]

pub take_copy-requires-clause-once : goal.take_copy-requires-clause-once
take_copy-requires-clause-once g c κs within =
    let how = plan c.args.table.now in let old = c.args.self.now in let v = old.seat.me.0.core in let few = c.args.table.now.sizes in let some = few.some_slots in
    let shown = c.if-found-seen.false ∙ c.requires.front.n in let small = c.requires.reader.0 in let slots : 0 < how.slots = (omega arith) in
    let places = old.places how c.args.number c.requires.own.plan_is c.requires.reader.1 in let home = g.P.Payload.home in let source = g.P.Payload.source in
    let carries = pin_carries home source how c.args.number (omega arith) old.seat.me c.add_pin-found.result c.add_pin-found.new.seat.me slots c.requires.replay c.requires.held places c.add_pin-found.ensures.added shown in
    let listed = take_copy-requires-clause-listed g c κs within in
    ap (times c.place_of-place.result) listed ∙ ap (λ at. times at (slots_of c.add_pin-found.new.seat.me.1)) (c.place_of-place.ensures ∙ ap (λ n. place n c.args.number) c.requires.front.slot)
    ∙ carried_once home source how c.args.number (omega arith) v (added how.slots v slots c.requires.replay) slots c.requires.replay c.requires.held (added_holds how.slots v slots c.requires.replay) c.add_pin-found.new.seat.me.1 carries

pub take_copy-requires-clause-some : goal.take_copy-requires-clause-some
take_copy-requires-clause-some g c κs within =
    let how = plan c.args.table.now in let old = c.args.self.now in let v = old.seat.me.0.core in let few = c.args.table.now.sizes in let some = few.some_slots in
    let shown = c.if-found-seen.false ∙ c.requires.front.n in let small = c.requires.reader.0 in let slots : 0 < how.slots = (omega arith) in
    let places = old.places how c.args.number c.requires.own.plan_is c.requires.reader.1 in let home = g.P.Payload.home in let source = g.P.Payload.source in
    let carries = pin_carries home source how c.args.number (omega arith) old.seat.me c.add_pin-found.result c.add_pin-found.new.seat.me slots c.requires.replay c.requires.held places c.add_pin-found.ensures.added shown in
    subst (λ at. HasCopyAt at c.add_pin-found.new.seat.me.1) (sym (c.place_of-place.ensures ∙ ap (λ n. place n c.args.number) c.requires.front.slot))
    (has_copy home source how c.args.number (omega arith) v (added how.slots v slots c.requires.replay) slots c.requires.replay c.requires.held (added_holds how.slots v slots c.requires.replay) c.add_pin-found.new.seat.me.1 carries c.requires.may.room)

pub invariant_of-self-2 : goal.invariant_of-self-2
invariant_of-self-2 g c =
    let how = plan c.args.table.now in let old = c.args.self.now in let v = old.seat.me.0.core in let few = c.args.table.now.sizes in let some = few.some_slots in
    let shown = c.if-found-seen.false ∙ c.requires.front.n in let small = c.requires.reader.0 in let slots : 0 < how.slots = (omega arith) in
    let number = c.args.number in let home = g.P.Payload.home in let source = g.P.Payload.source in
    let places = old.places how number c.requires.own.plan_is c.requires.reader.1 in
    let carries = pin_carries home source how number (omega arith) old.seat.me c.add_pin-found.result c.add_pin-found.new.seat.me slots c.requires.replay c.requires.held places c.add_pin-found.ensures.added shown in
    let view = c.take_copy.ensures.same ∙ c.add_pin-found.ensures.added.view ∙ ap (λ n. knowing (pinned how.slots n v) old.seat.me.0) shown in
    let taken = subst (λ at. CopyTaken at (arc_value c.take_copy.result) c.add_pin-found.new.seat.me.1 c.take_copy.new.seat.me.1) (c.place_of-place.ensures ∙ ap (λ n. place n number) c.requires.front.slot) c.take_copy.ensures.taken in record {
      listed = c.take_copy.ensures.still_listed;
      places = for_reader how number c.take_copy.new.seat.me.0 (λ p r. CarriesPlaces home source p r c.take_copy.new.seat.me.0.core c.take_copy.new.seat.me.1) c.take_copy.ensures.own.plan_is
          (subst (λ w. Rattle.pin_core.specs.Core.IsReader number w.core) (sym view) c.requires.reader.1)
          (carries_after_pin home source how number (omega arith) v (added how.slots v slots c.requires.replay) slots c.requires.replay c.requires.held (added_holds how.slots v slots c.requires.replay) c.add_pin-found.new.seat.me.1 carries
          (arc_value c.take_copy.result) c.take_copy.new.seat.me.1 taken c.take_copy.new.seat.me.0.core (ap (λ w. w.core.seen) view) (ap (λ w. w.core.entries) view));
    }

pub returns-clause-pinned : goal.returns-clause-pinned
returns-clause-pinned g c =
    let how = plan c.args.table.now in let old = c.args.self.now in let v = old.seat.me.0.core in let few = c.args.table.now.sizes in let some = few.some_slots in
    let shown = c.if-found-seen.false ∙ c.requires.front.n in let small = c.requires.reader.0 in let slots : 0 < how.slots = (omega arith) in
    let number = c.args.number in let home = g.P.Payload.home in let source = g.P.Payload.source in
    let places = old.places how number c.requires.own.plan_is c.requires.reader.1 in
    let carries = pin_carries home source how number (omega arith) old.seat.me c.add_pin-found.result c.add_pin-found.new.seat.me slots c.requires.replay c.requires.held places c.add_pin-found.ensures.added shown in
    let taken = subst (λ at. CopyTaken at (arc_value c.take_copy.result) c.add_pin-found.new.seat.me.1 c.take_copy.new.seat.me.1) (c.place_of-place.ensures ∙ ap (λ n. place n number) c.requires.front.slot) c.take_copy.ensures.taken in record {
      view = c.take_copy.ensures.same ∙ c.add_pin-found.ensures.added.view ∙ ap (λ n. knowing (pinned how.slots n v) old.seat.me.0) shown;
      copy = subst (λ src. IsOf home source (home how.first) src (arc_value c.take_copy.result)) (added_source how.slots v slots c.requires.replay)
          (copy_is home source how number (omega arith) v (added how.slots v slots c.requires.replay) slots c.requires.replay c.requires.held (added_holds how.slots v slots c.requires.replay) c.add_pin-found.new.seat.me.1 carries (arc_value c.take_copy.result) c.take_copy.new.seat.me.1 taken);
    }
