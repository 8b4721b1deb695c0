use Rattle.std.proofs.Common.{◌<◌, ◌∙◌, length, sym, ap, subst}
use Rattle.pin_core.specs.Core.{times}
use Rattle.pin_table.specs.declared.cell.Cell.TheVariants.{Empty, Place}
use Rattle.pin_table.specs.Carried.{Exchanges}
use Rattle.pin_table.specs.Handles.{shelf_in}
use Rattle.pin_table.proofs.ExchangeLemmas.{was_carried, same_slots, exchanged_twice}
use Rattle.pin_table.proofs.PlaceLemmas.{place_is}
use Rattle.pin_table.proofs.hand.take_copy.Goals as goal

pub unreachable-requires : goal.unreachable-requires
unreachable-requires g c =
    let found = c.exchange.result in let shown = c.requires.some found (was_carried c.args.place found Empty c.args.seat.now.me.1 c.exchange.new.seat.me.1 c.exchange.ensures.exchanged) in
    c.in_default.not-Place (shelf_in found) (place_is found shown.0)

pub take-copy-requires-after_bounds : goal.take-copy-requires-after_bounds
take-copy-requires-after_bounds g c κs within =
    let found = c.exchange.result in let shown = c.requires.some found (was_carried c.args.place found Empty c.args.seat.now.me.1 c.exchange.new.seat.me.1 c.exchange.ensures.exchanged) in
    subst (λ cell. 0 < length (shelf_in cell)) c.in-Place.is shown.1

pub exchange-requires-2-clause-taken : goal.exchange-requires-2-clause-taken
exchange-requires-2-clause-taken g c =
    ap (times c.args.place) c.exchange.ensures.still_listed ∙ same_slots c.args.place c.exchange.result Empty c.args.seat.now.me.1 c.exchange.new.seat.me.1 c.exchange.ensures.exchanged c.args.place
    ∙ sym (ap (times c.args.place) c.requires.listed) ∙ c.requires.once

pub returns-clause-taken : goal.returns-clause-taken
returns-clause-taken g c = let others = c.take-copy.result.1 in record {
  others = others;
  is = subst (λ cell. Exchanges c.args.place cell (Place others) c.args.seat.now.me.1 c.exchange-2.new.seat.me.1) (c.in-Place.is ∙ ap Place c.take-copy.ensures)
      (exchanged_twice c.args.place c.exchange.result Empty c.exchange-2.result (Place others) c.args.seat.now.me.1 c.exchange.new.seat.me.1 c.exchange-2.new.seat.me.1
      (sym (ap (times c.args.place) c.requires.listed) ∙ c.requires.once) c.exchange.ensures.exchanged c.exchange-2.ensures.exchanged);
}
