use Rattle.std.proofs.Common.{◌≤◌, ◌∙◌, subst, sym, ap, arith, length, Some}
use Rattle.std.proofs.lemmas.List.{length-map}
use Rattle.pin_core.specs.Core.{times}
use Rattle.pin_core.specs.Packing.{book_place}
use Rattle.pin_core.specs.Step.{was_refused, got_turn, gave_turn}
use Rattle.pin_book.specs.Book.{list_of}
use Rattle.pin_table.specs.Carried.{slots_of}
use Rattle.pin_table.specs.Table.{plan}
use Rattle.pin_table.proofs.PlaceLemmas.{few_carried}
use Rattle.pin_table.proofs.TurnLemmas.{few_rows}
use Rattle.pin_table.proofs.HandLemmas.{refused_leaves, turn_leaves, idle_seat, places_seat, book_apart, carried_behind, turn_seat}
use Rattle.pin_table.proofs.listing_calls.list_in_turn.Goals as goal

pub take_turn-requires-clause-few : goal.take_turn-requires-clause-few
take_turn-requires-clause-few g c =
    let hand = c.args.hand.now in let how = plan c.args.table.now in
    let few = few_carried g.P.Payload.home g.P.Payload.source how c.args.number hand.seat.me.0.core hand.seat.me.1 (hand.places how c.args.number c.requires.own.plan_is c.requires.idle.reader) in
    let long = ap (λ l. length l) hand.listed in let same = length-map hand.seat.me.1 (λ x. x.0) in λ _ _. omega arith

pub take_turn-requires-clause-apart : goal.take_turn-requires-clause-apart
take_turn-requires-clause-apart g c =
    let hand = c.args.hand.now in let how = plan c.args.table.now in λ _ _. ap (times (book_place how.slots)) hand.listed
    ∙ book_apart g.P.Payload.home g.P.Payload.source how c.args.number hand.seat.me.0.core hand.seat.me.1 (hand.places how c.args.number c.requires.own.plan_is c.requires.idle.reader)

pub invariant_of-hand : goal.invariant_of-hand
invariant_of-hand g c =
    let hand = c.args.hand.now in let how = plan c.args.table.now in let miss = c.in_err-book.ensures.missed in record {
      listed = c.take_turn.ensures.listed;
      places = places_seat g.P.Payload.home g.P.Payload.source how c.args.number hand.seat.me c.take_turn.new.seat.me (was_refused (Some miss.holder) hand.seat.me.0.core) miss.seat c.requires.idle
          (refused_leaves how.slots c.args.number (Some miss.holder) hand.seat.me.0.core c.requires.idle) c.requires.own.plan_is hand.places;
    }

pub returns-in_err-book-clause-idle : goal.returns-in_err-book-clause-idle
returns-in_err-book-clause-idle g c =
    let hand = c.args.hand.now in let how = plan c.args.table.now in let miss = c.in_err-book.ensures.missed in
    idle_seat g.P.Payload.home g.P.Payload.source how c.args.number hand.seat.me c.take_turn.new.seat.me (was_refused (Some miss.holder) hand.seat.me.0.core) miss.seat c.requires.idle
    (refused_leaves how.slots c.args.number (Some miss.holder) hand.seat.me.0.core c.requires.idle)

pub rows_in-requires : goal.rows_in-requires
rows_in-requires g c =
    let how = plan c.args.table.now in let held = c.in_ok-book.ensures.held in let sizes = c.args.table.now.sizes in let least = sizes.some_slots in
    subst (λ b. length (list_of b).listed ≤ 64) (sym held.is) (few_rows how.slots 64 held.journal (omega arith) sizes.few_slots held.goes_on.replay)

pub give_turn_back-requires-clause-apart : goal.give_turn_back-requires-clause-apart
give_turn_back-requires-clause-apart g c =
    let hand = c.args.hand.now in let how = plan c.args.table.now in λ _ _.
    ap (λ l. times (book_place how.slots) (slots_of l)) (carried_behind g.P.Payload.home g.P.Payload.name_of how c.args.number hand.seat.me c.take_turn.new.seat.me _ c.in_ok-book.ensures.held)
    ∙ book_apart g.P.Payload.home g.P.Payload.source how c.args.number hand.seat.me.0.core hand.seat.me.1 (hand.places how c.args.number c.requires.own.plan_is c.requires.idle.reader)

pub invariant_of-hand-2 : goal.invariant_of-hand-2
invariant_of-hand-2 g c =
    let hand = c.args.hand.now in let how = plan c.args.table.now in let held = c.in_ok-book.ensures.held in
    let seat = turn_seat g.P.Payload.home g.P.Payload.name_of how c.args.number hand.seat.me c.take_turn.new.seat.me c.give_turn_back.new.seat.me _ held c.give_turn_back.ensures.given in record {
      listed = c.give_turn_back.ensures.listed;
      places = places_seat g.P.Payload.home g.P.Payload.source how c.args.number hand.seat.me c.give_turn_back.new.seat.me (gave_turn (got_turn held.journal hand.seat.me.0.core)) seat c.requires.idle
          (turn_leaves how.slots how.room c.args.number held.journal hand.seat.me.0.core c.requires.idle held.goes_on) c.requires.own.plan_is hand.places;
    }

pub returns-clause-idle : goal.returns-clause-idle
returns-clause-idle g c =
    let hand = c.args.hand.now in let how = plan c.args.table.now in let held = c.in_ok-book.ensures.held in
    let seat = turn_seat g.P.Payload.home g.P.Payload.name_of how c.args.number hand.seat.me c.take_turn.new.seat.me c.give_turn_back.new.seat.me _ held c.give_turn_back.ensures.given in
    idle_seat g.P.Payload.home g.P.Payload.source how c.args.number hand.seat.me c.give_turn_back.new.seat.me (gave_turn (got_turn held.journal hand.seat.me.0.core)) seat c.requires.idle
    (turn_leaves how.slots how.room c.args.number held.journal hand.seat.me.0.core c.requires.idle held.goes_on)
