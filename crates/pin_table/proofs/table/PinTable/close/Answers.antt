use Rattle.std.proofs.Common.{◌≡◌, ◌*◌, subst}
use Rattle.std.specs.Mem.Slots.{slots_items}
use mathlib.Core.Option.{some}
use lib.ListN.{get_elem?}
use Rattle.atomic_table.specs.declared.shared.Seat.{Seat}
use Rattle.atomic_table.specs.Table.{Final, Seen}
use Rattle.pin_table.specs.Rule.{KeepsList}
use Rattle.pin_table.specs.Seat.{plan_of}
use Rattle.pin_table.proofs.ClosingLemmas.{closes, closed_book}
use Rattle.pin_table.proofs.table.PinTable.close.Goals as goal

pub unreachable-requires : goal.unreachable-requires
unreachable-requires g c =
    let made = c.args.self.made in
    let there = subst (λ n. get_elem? (slots_items c.close_with-closed.result.slots) (16 * n) ≡ some c.take_last.result) made.0 c.take_last.ensures in
    let final = subst (λ (x : Seat _ _). Final (Seen (KeepsList g.P.Payload.home g.P.Payload.source g.P.Payload.name_of (plan_of c.args.self.base.shared.key)) x.id x.me.0) (slots_items c.close_with-closed.result.words) (slots_items c.close_with-closed.result.slots)) c.into_seat.ensures c.close_with-closed.ensures.values.2 in
    let closed = closes g.P.Payload.home g.P.Payload.source g.P.Payload.name_of (plan_of c.args.self.base.shared.key) c.args.main.seat.id c.args.main.seat.me.0
    (slots_items c.close_with-closed.result.words) (slots_items c.close_with-closed.result.slots) c.take_last.result c.args.main.role c.requires.whole final there in
    c.in_default.not-Desk _ closed.desk

pub returns-clause-book : goal.returns-clause-book
returns-clause-book g c =
    let made = c.args.self.made in
    let there = subst (λ n. get_elem? (slots_items c.close_with-closed.result.slots) (16 * n) ≡ some c.take_last.result) made.0 c.take_last.ensures in
    let final = subst (λ (x : Seat _ _). Final (Seen (KeepsList g.P.Payload.home g.P.Payload.source g.P.Payload.name_of (plan_of c.args.self.base.shared.key)) x.id x.me.0) (slots_items c.close_with-closed.result.words) (slots_items c.close_with-closed.result.slots)) c.into_seat.ensures c.close_with-closed.ensures.values.2 in
    let closed = closes g.P.Payload.home g.P.Payload.source g.P.Payload.name_of (plan_of c.args.self.base.shared.key) c.args.main.seat.id c.args.main.seat.me.0
    (slots_items c.close_with-closed.result.words) (slots_items c.close_with-closed.result.slots) c.take_last.result c.args.main.role c.requires.whole final there in
    (closed_book g.P.Payload.home g.P.Payload.source g.P.Payload.name_of (plan_of c.args.self.base.shared.key) c.args.main.seat.me.0.core c.take_last.result c.in-Desk.book closed c.in-Desk.is).0

pub returns-clause-journal : goal.returns-clause-journal
returns-clause-journal g c =
    let made = c.args.self.made in
    let there = subst (λ n. get_elem? (slots_items c.close_with-closed.result.slots) (16 * n) ≡ some c.take_last.result) made.0 c.take_last.ensures in
    let final = subst (λ (x : Seat _ _). Final (Seen (KeepsList g.P.Payload.home g.P.Payload.source g.P.Payload.name_of (plan_of c.args.self.base.shared.key)) x.id x.me.0) (slots_items c.close_with-closed.result.words) (slots_items c.close_with-closed.result.slots)) c.into_seat.ensures c.close_with-closed.ensures.values.2 in
    let closed = closes g.P.Payload.home g.P.Payload.source g.P.Payload.name_of (plan_of c.args.self.base.shared.key) c.args.main.seat.id c.args.main.seat.me.0
    (slots_items c.close_with-closed.result.words) (slots_items c.close_with-closed.result.slots) c.take_last.result c.args.main.role c.requires.whole final there in
    (closed_book g.P.Payload.home g.P.Payload.source g.P.Payload.name_of (plan_of c.args.self.base.shared.key) c.args.main.seat.me.0.core c.take_last.result c.in-Desk.book closed c.in-Desk.is).1
