use Rattle.std.proofs.Common.{◌≡◌, arith, ◌∙◌}
use Rattle.pin_book.specs.Book.{list_of, IsShelved}
use Rattle.pin_book.proofs.KeptLemmas.{keeps_nothing}
use Rattle.pin_book.proofs.book.Book.kept.Goals as goal

pub returns-clause-none : goal.returns-clause-none
returns-clause-none c =
    let shelved : IsShelved c.args.self.now c.self.inside.standing = rw (← c.self.view_is) c.self.invariant.1 in
    let keeps : c.kept.result.now ≡ (list_of c.args.self.now).kept = c.kept.ensures ∙ shelved.kept in
    rw keeps (keeps_nothing c.args.self.now.slots c.args.slot c.args.self.now.journal (omega (arith, shelved.some_slots)) shelved.journal.replay)
