use Rattle.std.proofs.Common.{◌≡◌, subst, sym, ◌∙◌, ap, arith}
use Rattle.pin_core.specs.Core.{times}
use Rattle.pin_core.specs.Packing.{book_place}
use Rattle.pin_table.specs.BookHeld.{HoldsBook}
use Rattle.pin_table.specs.Table.{plan}
use Rattle.pin_table.proofs.TurnLemmas.{took_book, same_book}
use Rattle.pin_table.proofs.turns.take_turn.Goals as goal

pub take-requires : goal.take-requires
take-requires g c = let won : c.try_turn-found.result ≡ 0 = omega arith in let few = (c.try_turn-found.ensures.tried.won won).goes_on.few in let low = c.requires.few in omega arith

pub unreachable-requires : goal.unreachable-requires
unreachable-requires g c =
    let table = c.args.table.now in let won : c.try_turn-found.result ≡ 0 = omega arith in let place = c.book_place-place.ensures ∙ ap book_place table.made.0 in let x = c.exchange.ensures in
    let took = took_book g.P.Payload.home g.P.Payload.name_of (plan table) c.args.number c.args.seat.now.me c.try_turn-found.new.seat.me c.exchange.new.seat.me _ _
    (c.try_turn-found.ensures.tried.won won) place (ap (times (book_place (plan table).slots)) (sym c.requires.listed) ∙ c.requires.apart) x.exchanged x.same.2 in
    c.in_default.not-Desk _ took.1

pub returns-clause-held : goal.returns-clause-held
returns-clause-held g c =
    let table = c.args.table.now in let won : c.try_turn-found.result ≡ 0 = omega arith in let place = c.book_place-place.ensures ∙ ap book_place table.made.0 in let x = c.exchange.ensures in
    let took = took_book g.P.Payload.home g.P.Payload.name_of (plan table) c.args.number c.args.seat.now.me c.try_turn-found.new.seat.me c.exchange.new.seat.me _ _
    (c.try_turn-found.ensures.tried.won won) place (ap (times (book_place (plan table).slots)) (sym c.requires.listed) ∙ c.requires.apart) x.exchanged x.same.2 in
    subst (λ book. HoldsBook g.P.Payload.home g.P.Payload.name_of (plan table) c.args.number c.args.seat.now.me book c.exchange.new.seat.me) (same_book _ _ _ took.1 c.in-Desk.is) took.2
