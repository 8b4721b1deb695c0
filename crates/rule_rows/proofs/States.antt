-- The state looked for from the last number down, and the instants told one after another.
use Rattle.std.proofs.Common.{◌≡◌, ℕ, suc, ◌+◌, ◌<◌, ◌≤◌, Bool, true, false, List, [], ◌∷◌, ◌++◌, length, drop, get_or, refl, sym, ap, ◌∙◌, ℤ, pos, ◌-ℤ◌, ◌<ℤ◌, ◌≤ℤ◌, append_assoc, append-nil}
use Rattle.std.proofs.lemmas.List.{drop_more, drop_all}
use Rattle.std.proofs.lemmas.Option.{slice_get-get_or}
use Rattle.tz_specs.specs.Occurrence.{Occurrence, nominal_of}
use Rattle.tz_specs.specs.State.{shift, greatest, has_come, state_at, instants_from, instants}
use Rattle.tz_specs.proofs.Tests.{le-int_le, lt-int_le}
use Rattle.tz_specs.proofs.StateLemmas.{has_come-at}

-- ---- the greatest number that has come
pub state_first : (instants : List ℤ) (t : ℤ) (number : ℕ) → number ≡ length instants → greatest (has_come instants t) number ≡ state_at instants t
unfolding state_at
state_first instants t number is = ap (greatest (has_come instants t)) is

greatest-here : (passes : ℕ → Bool) (place : ℕ) → passes (suc place) ≡ true → greatest passes (suc place) ≡ suc place
greatest-here passes place h = rw h refl

greatest-below : (passes : ℕ → Bool) (place : ℕ) → passes (suc place) ≡ false → greatest passes (suc place) ≡ greatest passes place
greatest-below passes place h = rw h refl

pub state_here : (instants : List ℤ) (t : ℤ) (number place : ℕ) (d : ℤ) → number ≡ suc place → place < length instants → get_or instants place d ≤ℤ t → greatest (has_come instants t) number ≡ state_at instants t → number ≡ state_at instants t
state_here instants t number place d is low come so_far =
    let instant = get_or instants place d in
    let passes : has_come instants t (suc place) ≡ true = has_come-at instants t place instant (slice_get-get_or instants place d low) ∙ le-int_le instant t come in
    is ∙ sym (greatest-here (has_come instants t) place passes) ∙ ap (greatest (has_come instants t)) (sym is) ∙ so_far

pub state_below : (instants : List ℤ) (t : ℤ) (number place next : ℕ) (d : ℤ) → number ≡ suc place → next ≡ place → place < length instants → t <ℤ get_or instants place d → greatest (has_come instants t) number ≡ state_at instants t → greatest (has_come instants t) next ≡ state_at instants t
state_below instants t number place next d is next_is low not_yet so_far =
    let instant = get_or instants place d in
    let fails : has_come instants t (suc place) ≡ false = has_come-at instants t place instant (slice_get-get_or instants place d low) ∙ lt-int_le instant t not_yet in
    ap (greatest (has_come instants t)) next_is ∙ sym (greatest-below (has_come instants t) place fails) ∙ ap (greatest (has_come instants t)) (sym is) ∙ so_far

-- ---- the instants
pub instant_told : (before after : List ℤ) (occurrence : Occurrence) (stdoff save instant next : ℤ) (later : List Occurrence) → after ≡ before ++ instant ∷ [] → instant ≡ (nominal_of occurrence -ℤ shift occurrence.rule.moment.kind stdoff save) → next ≡ occurrence.rule.save → after ++ instants_from stdoff next later ≡ before ++ instants_from stdoff save (occurrence ∷ later)
instant_told before after occurrence stdoff save instant next later pushed is next_is =
    ap (λ (z : List ℤ). z ++ instants_from stdoff next later) pushed ∙ append_assoc before (instant ∷ []) (instants_from stdoff next later)
    ∙ ap (λ (z : ℤ). before ++ z ∷ instants_from stdoff next later) is
    ∙ ap (λ (z : ℤ). before ++ (nominal_of occurrence -ℤ shift occurrence.rule.moment.kind stdoff save) ∷ instants_from stdoff z later) next_is

pub told_first : (stdoff save : ℤ) (list : List Occurrence) (told : List ℤ) → told ≡ [] → save ≡ pos 0 → told ++ instants_from stdoff save list ≡ instants stdoff list
told_first stdoff save list told none is = rw (none, is) refl

pub told_more : (stdoff save next : ℤ) (list : List Occurrence) (occurrence : Occurrence) (place : ℕ) (before after : List ℤ) → place < length list → occurrence ≡ get_or list place occurrence → before ++ instants_from stdoff save (drop place list) ≡ instants stdoff list → ((later : List Occurrence) → after ++ instants_from stdoff next later ≡ before ++ instants_from stdoff save (occurrence ∷ later)) → after ++ instants_from stdoff next (drop (place + 1) list) ≡ instants stdoff list
told_more stdoff save next list occurrence place before after low is so_far step =
    let here : drop place list ≡ occurrence ∷ drop (place + 1) list = drop_more list place occurrence low ∙ ap (λ (z : Occurrence). z ∷ drop (place + 1) list) (sym is) in
    step (drop (place + 1) list) ∙ ap (λ (z : List Occurrence). before ++ instants_from stdoff save z) (sym here) ∙ so_far

pub told_all : (stdoff save : ℤ) (list : List Occurrence) (place : ℕ) (told : List ℤ) → length list ≤ place → told ++ instants_from stdoff save (drop place list) ≡ instants stdoff list → told ≡ instants stdoff list
told_all stdoff save list place told high so_far =
    let none = drop_all place list high in
    sym (append-nil told) ∙ ap (λ (z : List Occurrence). told ++ instants_from stdoff save z) (sym none) ∙ so_far
