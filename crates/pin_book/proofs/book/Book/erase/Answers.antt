use Rattle.std.proofs.Common.{◌≡◌, ◌<◌, ◌∙◌, [], length, sym, subst, arith}
use Rattle.std.proofs.lemmas.Bool.{false≢true}
use Rattle.pin_book.specs.declared.listed.Listed.{Listed}
use Rattle.pin_book.specs.Replay.{greatest_below}
use Rattle.pin_book.specs.Book.{Chronicle, list_of, IsShelved}
use Rattle.pin_book.proofs.BookLemmas.{FoundAt, found, not_found, erase_shelved, has_behind, short_place}
use Rattle.pin_book.proofs.book.Book.erase.Goals as goal

pub unreachable-requires : goal.unreachable-requires
unreachable-requires c =
    let shelved : IsShelved c.args.self.now c.self.inside.standing = rw (← c.self.view_is) c.self.invariant.1 in
    let gone = not_found c.args.self.now c.self.inside.standing c.args.after shelved (sym c.place_of.ensures ∙ c.in_default.is) in
    absurd (false≢true (sym gone ∙ c.requires.listed))

pub overflow_add-place : goal.overflow_add-place
overflow_add-place c =
    let shelved : IsShelved c.args.self.now c.self.inside.standing = rw (← c.self.view_is) c.self.invariant.1 in
    let at = found c.args.self.now c.self.inside.standing c.args.after c.in-Some.place shelved (sym c.place_of.ensures ∙ c.in-Some.is) in
    omega (arith, short_place c.args.self.now c.self.inside.standing c.args.after c.in-Some.place shelved at)

pub take_off-gone-requires : goal.take_off-gone-requires
take_off-gone-requires c =
    let shelved : IsShelved c.args.self.now c.self.inside.standing = rw (← c.self.view_is) c.self.invariant.1 in
    let at = found c.args.self.now c.self.inside.standing c.args.after c.in-Some.place shelved (sym c.place_of.ensures ∙ c.in-Some.is) in
    has_behind c.args.self.now c.self.inside.standing c.args.after c.in-Some.place at c.requires.behind

pub returns-clause-gone : goal.returns-clause-gone
returns-clause-gone c =
    let shelved : IsShelved c.args.self.now c.self.inside.standing = rw (← c.self.view_is) c.self.invariant.1 in
    let at = found c.args.self.now c.self.inside.standing c.args.after c.in-Some.place shelved (sym c.place_of.ensures ∙ c.in-Some.is) in
    let short = has_behind c.args.self.now c.self.inside.standing c.args.after c.in-Some.place at c.requires.behind in
    let none : Listed = record { n = 0; src = 0; slot = 0; name = [] } in
    c.take_off-gone.ensures.number none ∙ at.next none short

pub invariant_of-self : goal.invariant_of-self
invariant_of-self c =
    let shelved : IsShelved c.args.self.now c.self.inside.standing = rw (← c.self.view_is) c.self.invariant.1 in
    let at = found c.args.self.now c.self.inside.standing c.args.after c.in-Some.place shelved (sym c.place_of.ensures ∙ c.in-Some.is) in
    let short = has_behind c.args.self.now c.self.inside.standing c.args.after c.in-Some.place at c.requires.behind in
    let none : Listed = record { n = 0; src = 0; slot = 0; name = [] } in
    let gone : c.take_off-gone.result ≡ greatest_below c.args.after (list_of c.args.self.now).listed =
    c.take_off-gone.ensures.number none ∙ at.next none short in
    let some : 0 < c.take_off-gone.result = rw gone c.requires.behind in
    let at_inside = subst (λ (b : Chronicle). FoundAt b c.self.inside.standing c.args.after c.in-Some.place) (sym c.self.view_is) at in
    let gone_inside = subst (λ (b : Chronicle). c.take_off-gone.result ≡ greatest_below c.args.after (list_of b).listed) (sym c.self.view_is) gone in
    let room = subst (λ (b : Chronicle). length b.journal < b.room) (sym c.self.view_is) c.requires.room in
    let erased = erase_shelved _ c.self.inside.standing c.args.by c.args.after c.take_off-gone.result c.in-Some.place c.self.invariant.1 at_inside short some gone_inside room in
    rw (c.take_off-gone.ensures.rest, c.add.ensures) (c.self.invariant.0, erased)

pub returns-clause-book : goal.returns-clause-book
returns-clause-book c = (invariant_of-self c).1.journal
