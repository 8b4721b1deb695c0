use Rattle.std.proofs.Common.{◌∙◌, ap, subst}
use Rattle.pin_core.specs.Packing.{book_place}
use Rattle.pin_table.specs.declared.cell.Cell.TheVariants.{Desk}
use Rattle.pin_table.specs.Carried.{Exchanges}
use Rattle.pin_table.proofs.TurnLemmas.{gave_back}
use Rattle.pin_table.proofs.turns.give_turn_back.Goals as goal

pub returns-clause-given : goal.returns-clause-given
returns-clause-given g c =
    let x = c.exchange.ensures in let place = c.book_place.ensures ∙ ap book_place c.args.table.now.made.0 in let m = c.args.seat.now.me in let m1 = c.exchange.new.seat.me in
    (gave_back _ m m1 c.give_turn.new.seat.me c.exchange.result (Desk c.args.book) c.requires.first c.requires.apart
    (subst (λ k. Exchanges k c.exchange.result (Desk c.args.book) m.1 m1.1) place x.exchanged) x.same.2 c.give_turn.ensures.given).1
