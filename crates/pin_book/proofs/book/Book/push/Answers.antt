use Rattle.std.proofs.Common.{◌<◌, length, length-set, sym, subst, arith}
use Rattle.pin_book.specs.Book.{Chronicle, list_of, IsShelved}
use Rattle.pin_book.proofs.ReplayLemmas.{PushAsks}
use Rattle.pin_book.proofs.BookLemmas.{push_asked, push_shelved, push_has_room, pushes_le}
use Rattle.pin_book.proofs.book.Book.push.Goals as goal

pub push_reserved-requires : goal.push_reserved-requires
push_reserved-requires c =
    let shelved = c.self.invariant.1 in
    let room = subst (λ (b : Chronicle). length b.journal < b.room) (sym c.self.view_is) c.requires.room in
    omega (arith, c.self.inside.names.ok.0, c.self.invariant.0, shelved.journal.names, pushes_le c.self.inside.journal.writes, room)

pub put_first-requires-clause-room : goal.put_first-requires-clause-room
put_first-requires-clause-room c =
    let shelved : IsShelved c.args.self.now c.self.inside.standing = rw (← c.self.view_is) c.self.invariant.1 in
    let asks : PushAsks (list_of c.args.self.now) c.next_number-n.result c.args.slot =
    push_asked c.args.self.now c.self.inside.standing c.next_number-n.result c.args.slot shelved c.next_number-n.ensures c.requires.slot c.requires.unlisted in
    push_has_room c.args.self.now c.self.inside.standing c.next_number-n.result c.args.src c.args.slot shelved asks

pub invariant_of-self : goal.invariant_of-self
invariant_of-self c =
    let shelved : IsShelved c.args.self.now c.self.inside.standing = rw (← c.self.view_is) c.self.invariant.1 in
    let asks : PushAsks (list_of c.args.self.now) c.next_number-n.result c.args.slot =
    push_asked c.args.self.now c.self.inside.standing c.next_number-n.result c.args.slot shelved c.next_number-n.ensures c.requires.slot c.requires.unlisted in
    let room = subst (λ (b : Chronicle). length b.journal < b.room) (sym c.self.view_is) c.requires.room in
    let asks_inside = subst (λ (b : Chronicle). PushAsks (list_of b) c.next_number-n.result c.args.slot) (sym c.self.view_is) asks in
    let pushed = push_shelved _ c.self.inside.standing c.args.by c.next_number-n.result c.args.src c.args.slot c.args.name c.self.invariant.1 asks_inside room in
    rw (c.put_first.ensures, c.add.ensures, c.push_reserved.ensures.items, c.push_reserved.ensures.capacity, c.copied.ensures, length-set c.self.inside.standing.kept c.args.slot c.next_number-n.result)
    (c.self.invariant.0, pushed)

pub returns-clause-book : goal.returns-clause-book
returns-clause-book c = (invariant_of-self c).1.journal
