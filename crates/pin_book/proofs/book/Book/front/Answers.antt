use Rattle.std.proofs.Common.{◌∙◌, get_or, ap}
use Rattle.pin_book.specs.Book.{IsShelved}
use Rattle.pin_book.proofs.BookLemmas.{first_row, shelf_nonempty}
use Rattle.pin_book.proofs.book.Book.front.Goals as goal

pub bounds-listed-0 : goal.bounds-listed-0
bounds-listed-0 c =
    let shelved : IsShelved c.args.self.now c.self.inside.standing = rw (← c.self.view_is) c.self.invariant.1 in
    rw c.listed.ensures (shelf_nonempty c.args.self.now c.self.inside.standing shelved)

pub returns : goal.returns
returns c =
    let shelved : IsShelved c.args.self.now c.self.inside.standing = rw (← c.self.view_is) c.self.invariant.1 in
    let first = first_row c.args.self.now c.self.inside.standing c.index-listed-0.result shelved in
    c.copied.ensures ∙ (c.index-listed-0.is ∙ (ap (λ xs. get_or xs 0 c.index-listed-0.result) c.listed.ensures ∙ first))
