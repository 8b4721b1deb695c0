use Rattle.std.proofs.Common.{◌∙◌, sym, ap, arith, length, Some}
use Rattle.std.proofs.lemmas.List.{length-map}
use Rattle.atomic_table.specs.Table.{rest}
use Rattle.pin_core.specs.Core.{times}
use Rattle.pin_core.specs.Packing.{book_place}
use Rattle.pin_core.specs.Step.{was_refused, got_turn, gave_turn}
use Rattle.pin_table.specs.Carried.{slots_of}
use Rattle.pin_table.specs.Table.{plan}
use Rattle.pin_table.specs.Sources.{book_of}
use Rattle.pin_table.specs.Turns.{view_after_erase, erase_answer}
use Rattle.pin_table.proofs.PlaceLemmas.{few_carried}
use Rattle.pin_table.proofs.HandLemmas.{refused_leaves, idle_seat, places_seat, book_apart, carried_behind, step_seat}
use Rattle.pin_table.proofs.EraseLemmas.{erased_leaves, erased_book}
use Rattle.pin_table.proofs.erase_calls.erase_in_turn.Goals as goal

pub take_turn-requires-clause-few : goal.take_turn-requires-clause-few
take_turn-requires-clause-few g c =
    let hand = c.args.hand.now in let how = plan c.args.table.now in
    let few = few_carried g.P.Payload.home g.P.Payload.source how c.args.number hand.seat.me.0.core hand.seat.me.1 (hand.places how c.args.number c.requires.own.plan_is c.requires.idle.reader) in
    let long = ap (λ l. length l) hand.listed in let same = length-map hand.seat.me.1 (λ x. x.0) in λ _ _. omega arith

pub take_turn-requires-clause-apart : goal.take_turn-requires-clause-apart
take_turn-requires-clause-apart g c =
    let hand = c.args.hand.now in let how = plan c.args.table.now in λ _ _. ap (times (book_place how.slots)) hand.listed
    ∙ book_apart g.P.Payload.home g.P.Payload.source how c.args.number hand.seat.me.0.core hand.seat.me.1 (hand.places how c.args.number c.requires.own.plan_is c.requires.idle.reader)

pub invariant_of-hand : goal.invariant_of-hand
invariant_of-hand g c =
    let hand = c.args.hand.now in let how = plan c.args.table.now in let miss = c.in_err-book.ensures.missed in record {
      listed = c.take_turn.ensures.listed;
      places = places_seat g.P.Payload.home g.P.Payload.source how c.args.number hand.seat.me c.take_turn.new.seat.me (was_refused (Some miss.holder) hand.seat.me.0.core) miss.seat c.requires.idle
          (refused_leaves how.slots c.args.number (Some miss.holder) hand.seat.me.0.core c.requires.idle) c.requires.own.plan_is hand.places;
    }

pub returns-in_err-book-clause-idle : goal.returns-in_err-book-clause-idle
returns-in_err-book-clause-idle g c =
    let hand = c.args.hand.now in let how = plan c.args.table.now in let miss = c.in_err-book.ensures.missed in
    idle_seat g.P.Payload.home g.P.Payload.source how c.args.number hand.seat.me c.take_turn.new.seat.me (was_refused (Some miss.holder) hand.seat.me.0.core) miss.seat c.requires.idle
    (refused_leaves how.slots c.args.number (Some miss.holder) hand.seat.me.0.core c.requires.idle)

pub give_turn_back-requires-clause-apart : goal.give_turn_back-requires-clause-apart
give_turn_back-requires-clause-apart g c =
    let hand = c.args.hand.now in let how = plan c.args.table.now in let step = c.erase_by_book-answer.ensures.seat in λ _ _.
    ap (λ m. times (book_place how.slots) (slots_of (rest m.1))) step
    ∙ (ap (λ l. times (book_place how.slots) (slots_of l)) (carried_behind g.P.Payload.home g.P.Payload.name_of how c.args.number hand.seat.me c.take_turn.new.seat.me _ c.in_ok-book.ensures.held)
    ∙ book_apart g.P.Payload.home g.P.Payload.source how c.args.number hand.seat.me.0.core hand.seat.me.1 (hand.places how c.args.number c.requires.own.plan_is c.requires.idle.reader))

pub give_turn_back-requires-clause-book : goal.give_turn_back-requires-clause-book
give_turn_back-requires-clause-book g c =
    let how = plan c.args.table.now in let held = c.in_ok-book.ensures.held in let erased = c.erase_by_book-answer.ensures in let v = c.take_turn.new.seat.me.0.core in
    let seen = ap (λ m. m.0.core.seen) held.seat in let after = ap (λ m. m.0.core.seen) erased.seat in
    λ _ _. erased.book ∙ (λ i. record (held.is i) { journal = after i })
    ∙ (ap (λ l. record (book_of g.P.Payload.name_of (g.P.Payload.home how.first) how.slots how.room l) { journal = (view_after_erase c.args.number c.args.after v c.erase_by_book-answer.result).seen }) (sym seen)
    ∙ (erased_book g.P.Payload.name_of (g.P.Payload.home how.first) how.slots how.room c.args.number c.args.after v c.erase_by_book-answer.result
    ∙ ap (book_of g.P.Payload.name_of (g.P.Payload.home how.first) how.slots how.room) (sym after)))

pub invariant_of-hand-2 : goal.invariant_of-hand-2
invariant_of-hand-2 g c =
    let hand = c.args.hand.now in let how = plan c.args.table.now in let held = c.in_ok-book.ensures.held in let v = hand.seat.me.0.core in let sizes = c.args.table.now.sizes in let least = sizes.some_slots in
    let erased = c.erase_by_book-answer.ensures in let answer = c.erase_by_book-answer.result in
    let is = erased.answer ∙ ap (λ m. erase_answer how.slots m.0.core.seen c.args.allowance c.args.after) held.seat in
    let left = erased_leaves how.slots how.room c.args.number c.args.allowance c.args.after held.journal v answer (omega arith) c.requires.idle held.goes_on is in
    let seat = step_seat g.P.Payload.home g.P.Payload.name_of how c.args.number (λ u. view_after_erase c.args.number c.args.after u answer) hand.seat.me c.take_turn.new.seat.me c.erase_by_book-answer.new.seat.me c.give_turn_back.new.seat.me _ held erased.seat c.give_turn_back.ensures.given in
    record {
      listed = c.give_turn_back.ensures.listed;
      places = places_seat g.P.Payload.home g.P.Payload.source how c.args.number hand.seat.me c.give_turn_back.new.seat.me (gave_turn (view_after_erase c.args.number c.args.after (got_turn held.journal v) answer)) seat c.requires.idle left c.requires.own.plan_is hand.places;
    }

pub returns-in-Ok-clause-idle : goal.returns-in-Ok-clause-idle
returns-in-Ok-clause-idle g c =
    let hand = c.args.hand.now in let how = plan c.args.table.now in let held = c.in_ok-book.ensures.held in let v = hand.seat.me.0.core in let sizes = c.args.table.now.sizes in let least = sizes.some_slots in
    let erased = c.erase_by_book-answer.ensures in let answer = c.erase_by_book-answer.result in
    let is = erased.answer ∙ ap (λ m. erase_answer how.slots m.0.core.seen c.args.allowance c.args.after) held.seat in
    let left = erased_leaves how.slots how.room c.args.number c.args.allowance c.args.after held.journal v answer (omega arith) c.requires.idle held.goes_on is in
    let seat = step_seat g.P.Payload.home g.P.Payload.name_of how c.args.number (λ u. view_after_erase c.args.number c.args.after u answer) hand.seat.me c.take_turn.new.seat.me c.erase_by_book-answer.new.seat.me c.give_turn_back.new.seat.me _ held erased.seat c.give_turn_back.ensures.given in
    idle_seat g.P.Payload.home g.P.Payload.source how c.args.number hand.seat.me c.give_turn_back.new.seat.me (gave_turn (view_after_erase c.args.number c.args.after (got_turn held.journal v) answer)) seat c.requires.idle left

pub returns-in-Err-clause-idle : goal.returns-in-Err-clause-idle
returns-in-Err-clause-idle g c =
    let hand = c.args.hand.now in let how = plan c.args.table.now in let held = c.in_ok-book.ensures.held in let v = hand.seat.me.0.core in let sizes = c.args.table.now.sizes in let least = sizes.some_slots in
    let erased = c.erase_by_book-answer.ensures in let answer = c.erase_by_book-answer.result in
    let is = erased.answer ∙ ap (λ m. erase_answer how.slots m.0.core.seen c.args.allowance c.args.after) held.seat in
    let left = erased_leaves how.slots how.room c.args.number c.args.allowance c.args.after held.journal v answer (omega arith) c.requires.idle held.goes_on is in
    let seat = step_seat g.P.Payload.home g.P.Payload.name_of how c.args.number (λ u. view_after_erase c.args.number c.args.after u answer) hand.seat.me c.take_turn.new.seat.me c.erase_by_book-answer.new.seat.me c.give_turn_back.new.seat.me _ held erased.seat c.give_turn_back.ensures.given in
    idle_seat g.P.Payload.home g.P.Payload.source how c.args.number hand.seat.me c.give_turn_back.new.seat.me (gave_turn (view_after_erase c.args.number c.args.after (got_turn held.journal v) answer)) seat c.requires.idle left
