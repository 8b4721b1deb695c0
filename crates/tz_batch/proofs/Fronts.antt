-- A version at the front is told by its number: no two versions of a journal have the same one.
use Rattle.std.proofs.Common.{◌≡◌, ℕ, zero, suc, ◌+◌, ◌<◌, ◌⊎◌, true, false, List, [], ◌∷◌, ◌++◌, length, take, drop, Contains, Some, refl, sym, ap, ◌∙◌, ⊎_elim, inl, inr, subst, arith, eqb}
use Rattle.std.specs.Prelude.{slice_get}
use Rattle.std.proofs.lemmas.Bool.{or_cases, eqb-true, and_parts}
use Rattle.std.proofs.lemmas.Option.{same_Some, slice_get-get_or}
use Rattle.std.proofs.lemmas.List.{take-append-drop}
use Rattle.std.proofs.lemmas.List.Elements.{Contains-append_left}
use Rattle.std.proofs.lemmas.Grind.{flat_map-append}
use Rattle.pin_book.specs.declared.write.Change.{Change}
use Rattle.pin_book.specs.declared.write.Change.TheVariants.{Push, Erase}
use Rattle.pin_book.specs.declared.write.Write.{Write}
use Rattle.pin_book.specs.Replay.{Edition, opening, front_of, greatest_below, allowed, after_write, state_after, replays_from, replays}
use Rattle.pin_book.specs.Pushes.{pushed_by, pushes}
use Rattle.pin_book.proofs.ReplayLemmas.{push_asks, erase_asks}
use Rattle.pin_book.proofs.LawLemmas.{some_listed, listed_told, numbers_in_order}
use Rattle.pin_book.proofs.Journals.{replays_take}

abbrev pub first_edition : Edition
first_edition = record { n = 1; src = 0; slot = 0 }

abbrev pub number_of : Edition → ℕ
number_of edition = edition.n

-- the front is listed
pub front_is_listed : (es : List Edition) → 0 < length es → Contains es (front_of es)
front_is_listed [] some = absurd (omega (arith, some))
front_is_listed (e ∷ es) some = (0, omega arith, refl)

-- what is pushed up to a position is pushed
pub pushed_later : (journal : List Write) (w : ℕ) (e : Edition) → Contains (pushes (take w journal)) e → Contains (pushes journal) e
pushed_later journal w e has =
    let parts : pushes (take w journal) ++ pushes (drop w journal) ≡ pushes journal = sym (flat_map-append (λ (write : Write). pushed_by write.change) (take w journal) (drop w journal)) ∙ ap pushes (take-append-drop w journal) in
    subst (λ (xs : List Edition). Contains xs e) parts (Contains-append_left (pushes (take w journal)) (pushes (drop w journal)) e has)

-- the version at the front at a position is the first one, or was pushed
pub front_is_told : (slots : ℕ) (journal : List Write) (w : ℕ) → 0 < slots → replays slots journal ≡ true
    → (front_of (state_after slots (take w journal)).listed ≡ first_edition) ⊎ Contains (pushes journal) (front_of (state_after slots (take w journal)).listed)
front_is_told slots journal w some h =
    let part = replays_take slots journal w h in
    let e : Edition = front_of (state_after slots (take w journal)).listed in
    let told = (listed_told slots (take w journal) e some part).0 (front_is_listed (state_after slots (take w journal)).listed (some_listed slots (take w journal) some part)) in
    ⊎_elim (λ (same : e ≡ first_edition). inl same) (λ (has : Contains (pushes (take w journal)) e). inr (pushed_later journal w e has)) told.0

-- where a version was pushed, and the number that it has there
pushed_at : (slots : ℕ) (journal : List Write) (e : Edition) → 0 < slots → replays slots journal ≡ true → Contains (pushes journal) e
    → (place : ℕ) × (slice_get (pushes journal) place ≡ Some e) × (e.n ≡ place + 2)
pushed_at slots journal e some h has =
    let there : slice_get (pushes journal) has.0 ≡ Some e = slice_get-get_or (pushes journal) has.0 e has.1 ∙ ap Some has.2 in
    (has.0, there, numbers_in_order slots has.0 journal e some h there)

-- versions with one number, each of which is the first one or was pushed, are one
told_by_number : (slots : ℕ) (journal : List Write) (e o : Edition) → 0 < slots → replays slots journal ≡ true
    → (e ≡ first_edition) ⊎ Contains (pushes journal) e → (o ≡ first_edition) ⊎ Contains (pushes journal) o → e.n ≡ o.n → e ≡ o
told_by_number slots journal e o some h (inl one) (inl two) number = one ∙ sym two
told_by_number slots journal e o some h (inl one) (inr two) number =
    absurd (omega (arith, ap number_of one, (pushed_at slots journal o some h two).2, number))
told_by_number slots journal e o some h (inr one) (inl two) number =
    absurd (omega (arith, ap number_of two, (pushed_at slots journal e some h one).2, number))
told_by_number slots journal e o some h (inr one) (inr two) number =
    let first = pushed_at slots journal e some h one in
    let second = pushed_at slots journal o some h two in
    let place : first.0 ≡ second.0 = omega (arith, number, first.2, second.2) in
    same_Some e o (sym first.1 ∙ ap (slice_get (pushes journal)) place ∙ second.1)

-- a list without slots takes no write
pub nothing_allowed : (change : Change) → allowed (opening 0) change ≡ true → ⊥
nothing_allowed (Push n src slot) h = omega (arith, (push_asks (opening 0) n src slot h).inside)
nothing_allowed (Erase after gone) h =
    let asks = erase_asks (opening 0) after gone h in
    let is : 1 ≡ after = ⊎_elim (λ (e : eqb 1 after ≡ true). eqb-true 1 after e) (λ (e : false ≡ true). cc) (or_cases (eqb 1 after) false asks.listed) in
    let none : gone ≡ 0 = asks.next ∙ ap (λ n. greatest_below n (first_edition ∷ [])) (sym is) in
    omega (arith, none, asks.some)

pub none_taken : (w : ℕ) → take {A = Write} w [] ≡ []
none_taken zero = refl
none_taken (suc w) = refl

-- the versions at the front at two positions are one where they have one number
pub front_by_number : (slots : ℕ) (journal : List Write) (w v : ℕ) → replays slots journal ≡ true
    → (front_of (state_after slots (take w journal)).listed).n ≡ (front_of (state_after slots (take v journal)).listed).n
    → front_of (state_after slots (take w journal)).listed ≡ front_of (state_after slots (take v journal)).listed
front_by_number zero [] w v h number =
    ap (λ (writes : List Write). front_of (state_after 0 writes).listed) (none_taken w ∙ sym (none_taken v))
front_by_number zero (write ∷ later) w v h number =
    absurd (nothing_allowed write.change (and_parts (allowed (opening 0) write.change) (replays_from (after_write (opening 0) write) later) h).0)
front_by_number (suc slots) journal w v h number =
    told_by_number (suc slots) journal (front_of (state_after (suc slots) (take w journal)).listed) (front_of (state_after (suc slots) (take v journal)).listed) (omega arith) h (front_is_told (suc slots) journal w (omega arith) h) (front_is_told (suc slots) journal v (omega arith) h) number
