use Rattle.std.proofs.Common.{◌<◌, ◌∷◌, ◌∙◌, length, sym, ap, subst}
use Rattle.std.specs.Arc.{arc_value}
use Rattle.pin_core.specs.Core.{times}
use Rattle.pin_table.specs.declared.cell.Cell.TheVariants.{Empty, Place}
use Rattle.pin_table.specs.declared.shelf.TheConstants.{SHELF_COPIES}
use Rattle.pin_table.specs.Carried.{Exchanges}
use Rattle.pin_table.specs.Handles.{shelf_in}
use Rattle.pin_table.specs.Shelf.{AreOf}
use Rattle.pin_table.proofs.ExchangeLemmas.{was_carried, same_slots, exchanged_twice}
use Rattle.pin_table.proofs.PlaceLemmas.{place_is}
use Rattle.pin_table.proofs.hand.put_copy.Goals as goal

pub unreachable-requires : goal.unreachable-requires
unreachable-requires g c =
    let found = c.exchange.result in let shown = c.requires.room found (was_carried c.args.place found Empty c.args.seat.now.me.1 c.exchange.new.seat.me.1 c.exchange.ensures.exchanged) in
    c.in_default.not-Place (shelf_in found) (place_is found shown.0)

pub put_back-requires-clause-room : goal.put_back-requires-clause-room
put_back-requires-clause-room g c κs within =
    let found = c.exchange.result in let shown = c.requires.room found (was_carried c.args.place found Empty c.args.seat.now.me.1 c.exchange.new.seat.me.1 c.exchange.ensures.exchanged) in
    subst (λ cell. length (shelf_in cell) < SHELF_COPIES) c.in-Place.is shown.1

pub put_back-requires-clause-alike : goal.put_back-requires-clause-alike
put_back-requires-clause-alike g c κs within =
    let found = c.exchange.result in let shown = c.requires.room found (was_carried c.args.place found Empty c.args.seat.now.me.1 c.exchange.new.seat.me.1 c.exchange.ensures.exchanged) in
    let home = g.P.Payload.home in let source = g.P.Payload.source in let copy = arc_value c.args.copy in
    subst (λ cell. AreOf home source (home copy) (source copy) (shelf_in cell)) c.in-Place.is shown.2

pub exchange-requires-2-clause-taken : goal.exchange-requires-2-clause-taken
exchange-requires-2-clause-taken g c =
    ap (times c.args.place) c.exchange.ensures.still_listed ∙ same_slots c.args.place c.exchange.result Empty c.args.seat.now.me.1 c.exchange.new.seat.me.1 c.exchange.ensures.exchanged c.args.place
    ∙ sym (ap (times c.args.place) c.requires.listed) ∙ c.requires.once

pub returns-clause-put : goal.returns-clause-put
returns-clause-put g c = let others = c.in-Place.shelf in let copy = arc_value c.args.copy in record {
  others = others;
  is = subst (λ cell. Exchanges c.args.place cell (Place (copy ∷ others)) c.args.seat.now.me.1 c.exchange-2.new.seat.me.1) c.in-Place.is
      (subst (λ shelf. Exchanges c.args.place c.exchange.result (Place shelf) c.args.seat.now.me.1 c.exchange-2.new.seat.me.1) c.put_back.ensures
      (exchanged_twice c.args.place c.exchange.result Empty c.exchange-2.result (Place c.put_back.result) c.args.seat.now.me.1 c.exchange.new.seat.me.1 c.exchange-2.new.seat.me.1
      (sym (ap (times c.args.place) c.requires.listed) ∙ c.requires.once) c.exchange.ensures.exchanged c.exchange-2.ensures.exchanged));
}
