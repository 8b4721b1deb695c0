use Rattle.std.proofs.Common.{◌≡◌, ◌∙◌, ◌<◌, ◌+◌, length, get_or, refl, ap, sym, arith, rules}
use Rattle.std.proofs.lemmas.Bool.{false≢true, ltb-false}
use Rattle.pin_book.specs.Book.{IsShelved}
use Rattle.pin_book.proofs.BookLemmas.{found, not_found, behind_row}
use Rattle.pin_book.proofs.book.Book.after.Goals as goal

pub returns-in_default-clause-not_listed : goal.returns-in_default-clause-not_listed
returns-in_default-clause-not_listed c =
    let shelved : IsShelved c.args.self.now c.self.inside.standing = rw (← c.self.view_is) c.self.invariant.1 in
    let gone = not_found c.args.self.now c.self.inside.standing c.args.number shelved (sym c.place_of.ensures ∙ c.in_default.is) in
    (λ h. gone, λ h. refl)

pub returns-in_default-clause-nothing : goal.returns-in_default-clause-nothing
returns-in_default-clause-nothing c =
    let shelved : IsShelved c.args.self.now c.self.inside.standing = rw (← c.self.view_is) c.self.invariant.1 in
    let gone = not_found c.args.self.now c.self.inside.standing c.args.number shelved (sym c.place_of.ensures ∙ c.in_default.is) in
    (λ h. absurd (search rules), λ h. absurd (false≢true (sym gone ∙ h.0)))

pub returns-in-None-clause-not_listed : goal.returns-in-None-clause-not_listed
returns-in-None-clause-not_listed c =
    let shelved : IsShelved c.args.self.now c.self.inside.standing = rw (← c.self.view_is) c.self.invariant.1 in
    let at = found c.args.self.now c.self.inside.standing c.args.number c.in-Some.place shelved (sym c.place_of.ensures ∙ c.in-Some.is) in
    (λ h. absurd (search rules), λ h. absurd (false≢true (sym h ∙ at.listed)))

pub returns-in-None-clause-nothing : goal.returns-in-None-clause-nothing
returns-in-None-clause-nothing c =
    let shelved : IsShelved c.args.self.now c.self.inside.standing = rw (← c.self.view_is) c.self.invariant.1 in
    let at = found c.args.self.now c.self.inside.standing c.args.number c.in-Some.place shelved (sym c.place_of.ensures ∙ c.in-Some.is) in
    let look = c.in-None.ensures in
    let end = ltb-false (c.in-Some.place + 1) (length c.listed.result.now) (sym look.lookup.0) in
    let none = at.none (rw (← c.listed.ensures) end) in
    (λ h. (at.listed, none), λ h. refl)

pub returns-in-Some-get-clause-behind : goal.returns-in-Some-get-clause-behind
returns-in-Some-get-clause-behind c =
    let shelved : IsShelved c.args.self.now c.self.inside.standing = rw (← c.self.view_is) c.self.invariant.1 in
    let at = found c.args.self.now c.self.inside.standing c.args.number c.in-Some.place shelved (sym c.place_of.ensures ∙ c.in-Some.is) in
    let look = c.in-Some-get.ensures in
    let short : c.in-Some.place + 1 < length c.self.inside.standing.listed = rw (← c.listed.ensures) look.lookup.3.0 in
    let is : c.in-Some-get.row.now ≡ get_or c.self.inside.standing.listed (c.in-Some.place + 1) c.in-Some-get.row.now =
    look.lookup.1 ∙ ap (λ xs. get_or xs (c.in-Some.place + 1) c.in-Some-get.row.now) c.listed.ensures in
    rw c.copied.ensures (behind_row c.args.self.now c.self.inside.standing c.args.number c.in-Some.place c.in-Some-get.row.now shelved at short is)

pub returns-in-Some-get-clause-not_listed : goal.returns-in-Some-get-clause-not_listed
returns-in-Some-get-clause-not_listed c =
    let shelved : IsShelved c.args.self.now c.self.inside.standing = rw (← c.self.view_is) c.self.invariant.1 in
    let at = found c.args.self.now c.self.inside.standing c.args.number c.in-Some.place shelved (sym c.place_of.ensures ∙ c.in-Some.is) in
    (λ h. absurd (search rules), λ h. absurd (false≢true (sym h ∙ at.listed)))

pub returns-in-Some-get-clause-nothing : goal.returns-in-Some-get-clause-nothing
returns-in-Some-get-clause-nothing c =
    let shelved : IsShelved c.args.self.now c.self.inside.standing = rw (← c.self.view_is) c.self.invariant.1 in
    let at = found c.args.self.now c.self.inside.standing c.args.number c.in-Some.place shelved (sym c.place_of.ensures ∙ c.in-Some.is) in
    let look = c.in-Some-get.ensures in
    let short : c.in-Some.place + 1 < length c.self.inside.standing.listed = rw (← c.listed.ensures) look.lookup.3.0 in
    (λ h. absurd (search rules), λ h. absurd (omega (arith, h.1, at.some short)))

pub returns-in-Some-get-clause-erasable : goal.returns-in-Some-get-clause-erasable
returns-in-Some-get-clause-erasable c =
    let shelved : IsShelved c.args.self.now c.self.inside.standing = rw (← c.self.view_is) c.self.invariant.1 in
    let at = found c.args.self.now c.self.inside.standing c.args.number c.in-Some.place shelved (sym c.place_of.ensures ∙ c.in-Some.is) in
    let look = c.in-Some-get.ensures in
    let short : c.in-Some.place + 1 < length c.self.inside.standing.listed = rw (← c.listed.ensures) look.lookup.3.0 in
    (at.listed, at.some short)
