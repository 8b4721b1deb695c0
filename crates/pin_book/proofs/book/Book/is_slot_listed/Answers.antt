use Rattle.std.proofs.Common.{◌∙◌}
use Rattle.pin_book.specs.Book.{IsShelved}
use Rattle.pin_book.proofs.BookLemmas.{rows_slot}
use Rattle.pin_book.proofs.book.Book.is_slot_listed.Goals as goal

pub returns : goal.returns
returns c =
    let shelved : IsShelved c.args.self.now c.self.inside.standing = rw (← c.self.view_is) c.self.invariant.1 in
    c.has_slot.ensures ∙ rows_slot c.args.self.now c.self.inside.standing c.args.slot shelved
