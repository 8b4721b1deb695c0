-- The source of each version, by its number.
use Rattle.std.proofs.Common.{◌≡◌, ℕ, zero, suc, ◌+◌, ◌-◌, ◌<◌, ◌≤◌, ◌⊎◌, true, List, [], ◌∷◌, ◌++◌, length, get_or, Contains, refl, sym, ap, ◌∙◌, ⊎_elim, arith}
use Rattle.std.proofs.lemmas.List.{get_or_append_left}
use Rattle.std.proofs.lemmas.List.Elements.{Contains-append_right}
use Rattle.std.proofs.lemmas.Grind.{flat_map-append}
use Rattle.pin_book.specs.declared.write.Change.{Change}
use Rattle.pin_book.specs.declared.write.Change.TheVariants.{Push}
use Rattle.pin_book.specs.declared.write.Write.{Write}
use Rattle.pin_book.specs.Replay.{Edition, opening, state_after, replays}
use Rattle.pin_book.specs.Pushes.{pushed_by, pushes}
use Rattle.pin_book.specs.Sources.{first_edition, editions, source_of}
use Rattle.pin_book.proofs.ReplayLemmas.{opening_orderly}
use Rattle.pin_book.proofs.LawLemmas.{pushes_numbered, listed_told}

-- within a list it doesn't matter what stands beyond it
same_within : (l : List Edition) (k : ℕ) (a b : Edition) → k < length l → get_or l k a ≡ get_or l k b
same_within [] k a b low = absurd (omega arith)
same_within (x ∷ xs) zero a b low = refl
same_within (x ∷ xs) (suc k) a b low = same_within xs k a b (omega arith)

pub pushed_source : (slots : ℕ) (journal : List Write) (e : Edition) → 0 < slots → replays slots journal ≡ true → Contains (pushes journal) e → e.src ≡ source_of journal e.n
unfolding source_of
pushed_source slots journal e some h has =
    let number = pushes_numbered slots 0 has.0 (opening slots) journal e (opening_orderly slots some) h has.1 in
    let is : get_or (pushes journal) has.0 first_edition ≡ e = same_within (pushes journal) has.0 first_edition e has.1 ∙ has.2 in
    let own = ap (λ (x : Edition). x.n) has.2 in
    let place : e.n - 1 ≡ suc has.0 = omega arith in
    sym (ap (λ (x : Edition). x.src) is) ∙ ap (λ k. (get_or (editions journal) k first_edition).src) (sym place)

first_source : (journal : List Write) → source_of journal 1 ≡ 0
unfolding source_of
first_source journal = refl

pub source_stays : (journal later : List Write) (number : ℕ) → 1 ≤ number → number ≤ length (pushes journal) + 1 → source_of (journal ++ later) number ≡ source_of journal number
unfolding source_of
source_stays journal later number some low =
    ap (λ (l : List Edition). (get_or (first_edition ∷ l) (number - 1) first_edition).src) (flat_map-append (λ (w : Write). pushed_by w.change) journal later)
    ∙ ap (λ (x : Edition). x.src) (get_or_append_left (editions journal) (pushes later) first_edition (number - 1) (omega arith))

pub listed_source : (slots : ℕ) (journal : List Write) (e : Edition) → 0 < slots → replays slots journal ≡ true → Contains (state_after slots journal).listed e → e.src ≡ source_of journal e.n
listed_source slots journal e some h listed = ⊎_elim
    (λ (first : e ≡ first_edition). ap (λ (x : Edition). x.src) first ∙ sym (ap (λ (x : Edition). source_of journal x.n) first ∙ first_source journal))
    (λ (later : Contains (pushes journal) e). pushed_source slots journal e some h later)
    ((listed_told slots journal e some h).0 listed).0

pub new_source : (slots n src slot : ℕ) (journal : List Write) (write : Write) → 0 < slots → replays slots (journal ++ write ∷ []) ≡ true → write.change ≡ Push n src slot → source_of (journal ++ write ∷ []) n ≡ src
new_source slots n src slot journal write some h push =
    let e : Edition = record { n = n; src = src; slot = slot } in
    let last : pushes (write ∷ []) ≡ e ∷ [] = ap (λ (c : Change). pushed_by c ++ []) push in
    let whole = flat_map-append (λ (w : Write). pushed_by w.change) journal (write ∷ []) ∙ ap (λ (l : List Edition). pushes journal ++ l) last in
    let here : Contains (e ∷ []) e = (0, omega arith, refl) in
    let among : Contains (pushes journal ++ e ∷ []) e = Contains-append_right (pushes journal) (e ∷ []) e here in
    sym (pushed_source slots (journal ++ write ∷ []) e some h (rw whole among))
