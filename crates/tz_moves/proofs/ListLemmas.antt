-- Tests of each element of a list.
use Rattle.std.proofs.Common.{◌≡◌, Bool, true, false, inl, inr, refl, sym, ap, ◌∙◌, List, [], ◌∷◌}
use Rattle.std.specs.Prelude.{filter}
use Rattle.std.proofs.lemmas.Bool.{cond-true, cond-false}
use Rattle.tz_specs.proofs.Tests.{by_test}
use Rattle.tz_specs.proofs.ListLemmas.{In}

pub filter-pass : {X : Type 0} (test : X → Bool) (x : X) (xs : List X) → test x ≡ true → filter test (x ∷ xs) ≡ x ∷ filter test xs
filter-pass test x xs h = cond-true (test x) (x ∷ filter test xs) (filter test xs) h

pub filter-fail : {X : Type 0} (test : X → Bool) (x : X) (xs : List X) → test x ≡ false → filter test (x ∷ xs) ≡ filter test xs
filter-fail test x xs h = cond-false (test x) (x ∷ filter test xs) (filter test xs) h

-- none passes
pub filter-none : {X : Type 0} (test : X → Bool) (xs : List X) → ((x : X) → In x xs → test x ≡ false) → filter test xs ≡ []
filter-none test [] fails = refl
filter-none test (x ∷ xs) fails =
    filter-fail test x xs (fails x (inl refl)) ∙ filter-none test xs (λ y has. fails y (inr has))

-- two tests agree on the elements
pub filter-same : {X : Type 0} (test other : X → Bool) (xs : List X) → ((x : X) → In x xs → test x ≡ other x) → filter test xs ≡ filter other xs
filter-same test other [] same = refl
filter-same test other (x ∷ xs) same =
    let rest : filter test xs ≡ filter other xs = filter-same test other xs (λ y has. same y (inr has)) in
    let here : test x ≡ other x = same x (inl refl) in
    by_test (other x)
    (λ passes.
    filter-pass test x xs (here ∙ passes)
    ∙ ap (λ ys. x ∷ ys) rest
    ∙ sym (filter-pass other x xs passes))
    (λ fails. filter-fail test x xs (here ∙ fails) ∙ rest ∙ sym (filter-fail other x xs fails))
