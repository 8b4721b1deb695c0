-- Facts of operations in turn, as one more comes.
use Rattle.std.proofs.Common.{◌≡◌, ◌⊎◌, inl, inr, ⊎_elim, List, [], ◌∷◌, ◌++◌, length, length-append, Contains, refl, sym, ap, subst, arith}
use Rattle.std.proofs.lemmas.List.Elements.{Contains-append_left}
use Rattle.tz_batch.specs.Batch.{Answered}
use Rattle.tz_batch.specs.Round.{InTurn}

-- an element of a list that is pushed on is the last one, or stands in the list before it
pub at_push : {A : Type 0} (xs : List A) (x : A) (before : List A) (y : A) (later : List A) → xs ++ x ∷ [] ≡ before ++ y ∷ later
    → ((xs ≡ before) × (x ≡ y)) ⊎ ((more : List A) × (xs ≡ before ++ y ∷ more))
at_push [] x [] y later is = inl (refl, first_of x y [] later is)
  where
    first_of : {A : Type 0} (a b : A) (xs ys : List A) → a ∷ xs ≡ b ∷ ys → a ≡ b
    first_of a b xs ys e = cc
at_push [] x (b ∷ before) y later is = absurd (let long = ap length is in omega (arith, long, length-append before (y ∷ later)))
at_push (a ∷ xs) x [] y later is = inr (xs, same_first a y (xs ++ x ∷ []) later xs is)
  where
    same_first : {A : Type 0} (a b : A) (xs ys zs : List A) → a ∷ xs ≡ b ∷ ys → a ∷ zs ≡ b ∷ zs
    same_first a b xs ys zs e = cc
at_push (a ∷ xs) x (b ∷ before) y later is =
    let heads : a ≡ b = first_of a b (xs ++ x ∷ []) (before ++ y ∷ later) is in
    let tails : xs ++ x ∷ [] ≡ before ++ y ∷ later = rest_of a b (xs ++ x ∷ []) (before ++ y ∷ later) is in
    ⊎_elim
    (λ (last : (xs ≡ before) × (x ≡ y)). inl ((λ i. heads i ∷ last.0 i), last.1))
    (λ (inner : (more : List _) × (xs ≡ before ++ y ∷ more)). inr (inner.0, (λ i. heads i ∷ inner.1 i)))
    (at_push xs x before y later tails)
  where
    first_of : {A : Type 0} (a b : A) (xs ys : List A) → a ∷ xs ≡ b ∷ ys → a ≡ b
    first_of a b xs ys e = cc

    rest_of : {A : Type 0} (a b : A) (xs ys : List A) → a ∷ xs ≡ b ∷ ys → xs ≡ ys
    rest_of a b xs ys e = cc

-- a fact of no operation
pub in_turn_none : (fact : List Answered → Answered → Type 0) → InTurn [] fact
in_turn_none fact before later here is = absurd (let long = ap length is in omega (arith, long, length-append before (here ∷ later)))

-- one operation more
pub in_turn_push : (those : List Answered) (last : Answered) (fact : List Answered → Answered → Type 0) → InTurn those fact → fact those last → InTurn (those ++ last ∷ []) fact
in_turn_push those last fact all one before later here is =
    ⊎_elim
    (λ (at : (those ≡ before) × (last ≡ here)). subst (λ (it : Answered). fact before it) at.1 (subst (λ (xs : List Answered). fact xs last) at.0 one))
    (λ (at : (more : List Answered) × (those ≡ before ++ here ∷ more)). all before at.0 here at.1)
    (at_push those last before here later is)

-- a fact that follows from another, for operations that are among these
pub in_turn_map : (those : List Answered) (fact other : List Answered → Answered → Type 0)
    → ((before later : List Answered) (here : Answered) → those ≡ before ++ here ∷ later → fact before here → other before here) → InTurn those fact → InTurn those other
in_turn_map those fact other follows all before later here is = follows before later here is (all before later here is)

-- what stands before an operation stands among all of them
pub before_has : (those before later : List Answered) (here it : Answered) → those ≡ before ++ here ∷ later → Contains before it → Contains those it
before_has those before later here it is has = subst (λ (xs : List Answered). Contains xs it) (sym is) (Contains-append_left before (here ∷ later) it has)
