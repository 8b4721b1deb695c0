use Rattle.std.proofs.Common.{◌≡◌, ◌+◌, List, ◌∙◌, get_or, ap, arith}
use Rattle.pin_book.specs.declared.listed.Listed.{Listed}
use Rattle.pin_book.specs.Book.{IsShelved}
use Rattle.pin_book.proofs.BookLemmas.{first_row, shelf_nonempty, front_bound}
use Rattle.pin_book.proofs.book.Book.next_number.Goals as goal

pub bounds-listed-0 : goal.bounds-listed-0
bounds-listed-0 c =
    let shelved : IsShelved c.args.self.now c.self.inside.standing = rw (← c.self.view_is) c.self.invariant.1 in
    rw c.listed.ensures (shelf_nonempty c.args.self.now c.self.inside.standing shelved)

pub bounds-listed-0-2 : goal.bounds-listed-0-2
bounds-listed-0-2 c =
    let shelved : IsShelved c.args.self.now c.self.inside.standing = rw (← c.self.view_is) c.self.invariant.1 in
    rw c.listed.ensures (shelf_nonempty c.args.self.now c.self.inside.standing shelved)

pub overflow_add-result : goal.overflow_add-result
overflow_add-result c =
    let shelved : IsShelved c.args.self.now c.self.inside.standing = rw (← c.self.view_is) c.self.invariant.1 in
    let first = first_row c.args.self.now c.self.inside.standing c.index-listed-0.result shelved in
    let shows : get_or c.listed.result.now 0 c.index-listed-0.result ≡ get_or c.self.inside.standing.listed 0 c.index-listed-0.result =
    ap (λ (xs : List Listed). get_or xs 0 c.index-listed-0.result) c.listed.ensures in
    omega (arith, ap (λ (row : Listed). row.n) (shows ∙ first), front_bound c.args.self.now c.self.inside.standing shelved)

pub returns : goal.returns
returns c =
    let shelved : IsShelved c.args.self.now c.self.inside.standing = rw (← c.self.view_is) c.self.invariant.1 in
    let first = first_row c.args.self.now c.self.inside.standing c.index-listed-0.result shelved in
    let shows : get_or c.listed.result.now 0 c.index-listed-0.result ≡ get_or c.self.inside.standing.listed 0 c.index-listed-0.result =
    ap (λ (xs : List Listed). get_or xs 0 c.index-listed-0.result) c.listed.ensures in
    ap (λ (row : Listed). row.n + 1) (shows ∙ first)
