use Rattle.std.proofs.Common.{◌<◌, ◌∙◌, sym, ap, subst, arith, drop}
use Rattle.std.proofs.lemmas.Bool.{not-true, not-false}
use Rattle.std.specs.Arc.{arc_value}
use Rattle.atomic_table.specs.Table.{rest}
use Rattle.pin_core.specs.Core.{IsReader, times, held_at}
use Rattle.pin_core.specs.Lawful.{entry_number}
use Rattle.pin_core.specs.Packing.{place}
use Rattle.pin_core.specs.Step.{unpinned}
use Rattle.pin_table.specs.Carried.{slots_of}
use Rattle.pin_table.specs.Handles.{CarriesPlaces, CopyPut, HasRoomAt}
use Rattle.pin_table.specs.Plays.{MayGivePlace}
use Rattle.pin_table.specs.Seat.{knowing}
use Rattle.pin_table.specs.Table.{plan}
use Rattle.pin_table.proofs.StepLemmas.{for_reader}
use Rattle.pin_table.proofs.HandReleases.{holds, own_once, has_room, may_give, is_last_there, has_others_there, carries_after_last, carries_after_one}
use Rattle.pin_table.proofs.hand.Hand.unpin.Goals as goal

pub put_copy-requires-clause-once : goal.put_copy-requires-clause-once
put_copy-requires-clause-once g c κs within =
    let how = plan c.args.table.now in let old = c.args.self.now in let v = old.seat.me.0.core in let few = c.args.table.now.sizes in let least = few.some_slots in
    let small = c.requires.reader.0 in let some : 0 < how.slots = (omega arith) in let number = c.args.number in let home = g.P.Payload.home in let source = g.P.Payload.source in
    let places = old.places how number c.requires.own.plan_is c.requires.reader.1 in
    ap (times c.place_of-place.result) old.listed ∙ ap (λ at. times at (slots_of old.seat.me.1)) c.place_of-place.ensures ∙ own_once home source how number (omega arith) v c.args.entry c.args.at some c.requires.replay c.requires.held c.requires.there old.seat.me.1 places

pub put_copy-requires-clause-room : goal.put_copy-requires-clause-room
put_copy-requires-clause-room g c κs within =
    let how = plan c.args.table.now in let old = c.args.self.now in let v = old.seat.me.0.core in let few = c.args.table.now.sizes in let least = few.some_slots in
    let small = c.requires.reader.0 in let some : 0 < how.slots = (omega arith) in let number = c.args.number in let home = g.P.Payload.home in let source = g.P.Payload.source in
    let places = old.places how number c.requires.own.plan_is c.requires.reader.1 in
    subst (λ at. HasRoomAt home source at (arc_value c.args.copy) old.seat.me.1) (sym c.place_of-place.ensures) (has_room home source how number (omega arith) v c.args.entry c.args.at some c.requires.replay c.requires.held c.requires.there old.seat.me.1 places (arc_value c.args.copy) c.requires.copy)

pub take_pin-found-requires-clause-inside : goal.take_pin-found-requires-clause-inside
take_pin-found-requires-clause-inside g c κs within =
    let how = plan c.args.table.now in let old = c.args.self.now in let v = old.seat.me.0.core in let few = c.args.table.now.sizes in let least = few.some_slots in
    let small = c.requires.reader.0 in let some : 0 < how.slots = (omega arith) in let number = c.args.number in let home = g.P.Payload.home in let source = g.P.Payload.source in
    let places = old.places how number c.requires.own.plan_is c.requires.reader.1 in
    (holds home source how number (omega arith) v c.args.entry c.args.at some c.requires.replay c.requires.held c.requires.there old.seat.me.1 places).inside

pub take_pin-found-requires-clause-home : goal.take_pin-found-requires-clause-home
take_pin-found-requires-clause-home g c κs within _ last =
    let how = plan c.args.table.now in let old = c.args.self.now in let v = old.seat.me.0.core in let few = c.args.table.now.sizes in let least = few.some_slots in
    let small = c.requires.reader.0 in let some : 0 < how.slots = (omega arith) in let number = c.args.number in let home = g.P.Payload.home in let source = g.P.Payload.source in
    let places = old.places how number c.requires.own.plan_is c.requires.reader.1 in
    let put = subst (λ at. CopyPut at (arc_value c.args.copy) old.seat.me.1 c.put_copy.new.seat.me.1) c.place_of-place.ensures c.put_copy.ensures.put in
    subst (λ w. MayGivePlace home source how w.core.seen (entry_number how.slots w.core.seen c.args.entry) (place c.args.entry.slot number) c.put_copy.new.seat.me.1) (sym c.put_copy.ensures.same)
    (may_give home source how number (omega arith) v c.args.entry c.args.at some c.requires.replay c.requires.held c.requires.there old.seat.me.1 places (arc_value c.args.copy) c.requires.copy c.put_copy.new.seat.me.1 put (sym (ap (λ w. held_at c.args.entry.slot w.core) c.put_copy.ensures.same) ∙ last))

pub invariant_of-self : goal.invariant_of-self
invariant_of-self g c =
    let how = plan c.args.table.now in let old = c.args.self.now in let v = old.seat.me.0.core in let few = c.args.table.now.sizes in let least = few.some_slots in
    let small = c.requires.reader.0 in let some : 0 < how.slots = (omega arith) in let number = c.args.number in let home = g.P.Payload.home in let source = g.P.Payload.source in
    let places = old.places how number c.requires.own.plan_is c.requires.reader.1 in
    let put = subst (λ at. CopyPut at (arc_value c.args.copy) old.seat.me.1 c.put_copy.new.seat.me.1) c.place_of-place.ensures c.put_copy.ensures.put in
    let view = c.take_pin-found.ensures.taken.view ∙ ap (λ w. knowing (unpinned c.args.at w.core) w) c.put_copy.ensures.same in
    let last = is_last_there home source how number (omega arith) v c.args.entry c.args.at some c.requires.replay c.requires.held c.requires.there old.seat.me.1 places (not-true _ (sym c.requires.last ∙ c.if-is_last.true)) in
    let gone = c.take_pin-found.ensures.taken.last (holds home source how number (omega arith) v c.args.entry c.args.at some c.requires.replay c.requires.held c.requires.there old.seat.me.1 places).held (ap (λ w. held_at c.args.entry.slot w.core) c.put_copy.ensures.same ∙ last) in
    let carried = gone ∙ ap rest put.is.is in record {
      listed = c.give.ensures ∙ ap (drop 1) (c.put_copy.ensures.still_listed ∙ ap slots_of put.is.is) ∙ ap slots_of (sym carried);
      places = for_reader how number c.take_pin-found.new.seat.me.0 (λ p r. CarriesPlaces home source p r c.take_pin-found.new.seat.me.0.core c.take_pin-found.new.seat.me.1) c.take_pin-found.ensures.own.plan_is
          (subst (λ w. IsReader number w.core) (sym view) c.requires.reader.1)
          (subst (CarriesPlaces home source how number c.take_pin-found.new.seat.me.0.core) (sym carried)
          (carries_after_last home source how number (omega arith) v c.args.entry c.args.at some c.requires.replay c.requires.held c.requires.there old.seat.me.1 places (arc_value c.args.copy) c.requires.copy c.put_copy.new.seat.me.1 put c.take_pin-found.new.seat.me.0.core (ap (λ w. w.core.seen) view) (ap (λ w. w.core.entries) view) last));
    }

pub invariant_of-self-else-is_last : goal.invariant_of-self-else-is_last
invariant_of-self-else-is_last g c =
    let how = plan c.args.table.now in let old = c.args.self.now in let v = old.seat.me.0.core in let few = c.args.table.now.sizes in let least = few.some_slots in
    let small = c.requires.reader.0 in let some : 0 < how.slots = (omega arith) in let number = c.args.number in let home = g.P.Payload.home in let source = g.P.Payload.source in
    let places = old.places how number c.requires.own.plan_is c.requires.reader.1 in
    let put = subst (λ at. CopyPut at (arc_value c.args.copy) old.seat.me.1 c.put_copy.new.seat.me.1) c.place_of-place.ensures c.put_copy.ensures.put in
    let view = c.take_pin-found.ensures.taken.view ∙ ap (λ w. knowing (unpinned c.args.at w.core) w) c.put_copy.ensures.same in
    let several = has_others_there home source how number (omega arith) v c.args.entry c.args.at some c.requires.replay c.requires.held c.requires.there old.seat.me.1 places (not-false _ (sym c.requires.last ∙ c.if-is_last.false)) in
    let stays = c.take_pin-found.ensures.taken.further (holds home source how number (omega arith) v c.args.entry c.args.at some c.requires.replay c.requires.held c.requires.there old.seat.me.1 places).held (subst (λ n. 1 < n) (sym (ap (λ w. held_at c.args.entry.slot w.core) c.put_copy.ensures.same)) several) in record {
      listed = c.put_copy.ensures.still_listed ∙ ap slots_of (sym stays);
      places = for_reader how number c.take_pin-found.new.seat.me.0 (λ p r. CarriesPlaces home source p r c.take_pin-found.new.seat.me.0.core c.take_pin-found.new.seat.me.1) c.take_pin-found.ensures.own.plan_is
          (subst (λ w. IsReader number w.core) (sym view) c.requires.reader.1)
          (subst (CarriesPlaces home source how number c.take_pin-found.new.seat.me.0.core) (sym stays)
          (carries_after_one home source how number (omega arith) v c.args.entry c.args.at some c.requires.replay c.requires.held c.requires.there old.seat.me.1 places (arc_value c.args.copy) c.requires.copy c.put_copy.new.seat.me.1 put c.take_pin-found.new.seat.me.0.core (ap (λ w. w.core.seen) view) (ap (λ w. w.core.entries) view) several));
    }

pub returns-then-is_last-clause-shown : goal.returns-then-is_last-clause-shown
returns-then-is_last-clause-shown g c =
    let how = plan c.args.table.now in let old = c.args.self.now in let v = old.seat.me.0.core in let few = c.args.table.now.sizes in let least = few.some_slots in
    let small = c.requires.reader.0 in let some : 0 < how.slots = (omega arith) in let number = c.args.number in let home = g.P.Payload.home in let source = g.P.Payload.source in
    let places = old.places how number c.requires.own.plan_is c.requires.reader.1 in
    c.take_pin-found.ensures.taken.shown (holds home source how number (omega arith) v c.args.entry c.args.at some c.requires.replay c.requires.held c.requires.there old.seat.me.1 places).held ∙ ap (λ w. entry_number how.slots w.core.seen c.args.entry) c.put_copy.ensures.same

pub returns-else-is_last-clause-shown : goal.returns-else-is_last-clause-shown
returns-else-is_last-clause-shown g c =
    let how = plan c.args.table.now in let old = c.args.self.now in let v = old.seat.me.0.core in let few = c.args.table.now.sizes in let least = few.some_slots in
    let small = c.requires.reader.0 in let some : 0 < how.slots = (omega arith) in let number = c.args.number in let home = g.P.Payload.home in let source = g.P.Payload.source in
    let places = old.places how number c.requires.own.plan_is c.requires.reader.1 in
    c.take_pin-found.ensures.taken.shown (holds home source how number (omega arith) v c.args.entry c.args.at some c.requires.replay c.requires.held c.requires.there old.seat.me.1 places).held ∙ ap (λ w. entry_number how.slots w.core.seen c.args.entry) c.put_copy.ensures.same
