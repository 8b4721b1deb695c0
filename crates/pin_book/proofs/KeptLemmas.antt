-- What slots keep: the last number that was pushed into each.
use Rattle.std.proofs.Common.{◌≡◌, ℕ, ◌<◌, ◌≢◌, ◌⊎◌, ◌↔◌, true, false, eqb, List, [], ◌∷◌, length, fold, replicate, slice_index, refl, sym, ◌∙◌, ⊎_elim, inl, inr, subst, arith, get_or-set_other, get_or-set_same}
use Rattle.std.proofs.lemmas.Bool.{and_parts, or_parts, or_cases, eqb-true, eqb-false, cases_eq, cases_Bool, false≢true}
use Rattle.std.proofs.lemmas.List.Folds.{list_any-append}
use Rattle.pin_book.specs.declared.write.Change.{Change}
use Rattle.pin_book.specs.declared.write.Change.TheVariants.{Push, Erase}
use Rattle.pin_book.specs.declared.write.Write.{Write}
use Rattle.pin_book.specs.Replay.{Edition, ListState, opening, is_slot_listed, allowed, after_change, after_write, state_after, replays_from, replays}
use Rattle.pin_book.specs.Pushes.{pushed_by, pushes}
use Rattle.pin_book.proofs.ReplayLemmas.{push_asks, zeros_below}
use Rattle.std.proofs.lemmas.List.{length-replicate}

same_change : (slot : ℕ) (state : ListState) (change : Change) → is_slot_listed slot (pushed_by change) ≡ false → slice_index (after_change state change).kept slot ≡ slice_index state.kept slot
same_change slot state (Push n src into) other =
    let parts = or_parts (eqb into slot) false other in
    get_or-set_other state.kept into slot n 0 (λ e. eqb-false into slot parts.0 (sym e))
same_change slot state (Erase after gone) other = refl

-- writes that push nothing into a slot leave what it keeps
pub same_kept : (slot : ℕ) (state : ListState) (journal : List Write) → is_slot_listed slot (pushes journal) ≡ false → slice_index (fold after_write state journal).kept slot ≡ slice_index state.kept slot
same_kept slot state [] other = refl
same_kept slot state (write ∷ later) other =
    let split = list_any-append (λ (e : Edition). eqb e.slot slot) (pushed_by write.change) (pushes later) in
    let parts = or_parts (is_slot_listed slot (pushed_by write.change)) (is_slot_listed slot (pushes later)) (sym split ∙ other) in
    same_kept slot (after_write state write) later parts.1 ∙ same_change slot state write.change parts.0

-- a push into a slot is what it then keeps
pub kept_here : (state : ListState) (n src slot : ℕ) → allowed state (Push n src slot) ≡ true → slice_index (after_change state (Push n src slot)).kept slot ≡ n
kept_here state n src slot h = get_or-set_same state.kept slot n 0 (push_asks state n src slot h).inside

positive_change : (slot : ℕ) (state : ListState) (change : Change) → allowed state change ≡ true → (0 < slice_index state.kept slot) ⊎ (is_slot_listed slot (pushed_by change) ≡ true) → 0 < slice_index (after_change state change).kept slot
positive_change slot state (Push n src into) h either =
    ⊎_elim
    (λ (same : slot ≡ into). rw same (omega (arith, kept_here state n src into h, (push_asks state n src into h).next)))
    (λ (apart : slot ≡ into → ⊥).
    ⊎_elim (λ (some : 0 < slice_index state.kept slot). omega (arith, some, get_or-set_other state.kept into slot n 0 apart))
    (λ (here : is_slot_listed slot (pushed_by (Push n src into)) ≡ true).
    absurd (⊎_elim (λ (t : eqb into slot ≡ true). apart (sym (eqb-true into slot t))) (λ (f : false ≡ true). false≢true f) (or_cases (eqb into slot) false here)))
    either)
    (cases_eq slot into)
positive_change slot state (Erase after gone) h either =
    ⊎_elim (λ (some : 0 < slice_index state.kept slot). some) (λ (here : false ≡ true). absurd (false≢true here)) either

-- a slot that keeps something, or into which something is pushed, then keeps something
pub positive_kept : (slot : ℕ) (state : ListState) (journal : List Write) → replays_from state journal ≡ true → (0 < slice_index state.kept slot) ⊎ (is_slot_listed slot (pushes journal) ≡ true) → 0 < slice_index (fold after_write state journal).kept slot
positive_kept slot state [] h either =
    ⊎_elim (λ (some : 0 < slice_index state.kept slot). some) (λ (here : false ≡ true). absurd (false≢true here)) either
positive_kept slot state (write ∷ later) h either =
    let parts = and_parts (allowed state write.change) (replays_from (after_write state write) later) h in
    let split = list_any-append (λ (e : Edition). eqb e.slot slot) (pushed_by write.change) (pushes later) in
    ⊎_elim
    (λ (some : 0 < slice_index state.kept slot). positive_kept slot (after_write state write) later parts.1 (inl (positive_change slot state write.change parts.0 (inl some))))
    (λ (here : is_slot_listed slot (pushes (write ∷ later)) ≡ true).
    ⊎_elim
    (λ (first : is_slot_listed slot (pushed_by write.change) ≡ true). positive_kept slot (after_write state write) later parts.1 (inl (positive_change slot state write.change parts.0 (inr first))))
    (λ (rest : is_slot_listed slot (pushes later) ≡ true). positive_kept slot (after_write state write) later parts.1 (inr rest))
    (or_cases (is_slot_listed slot (pushed_by write.change)) (is_slot_listed slot (pushes later)) (sym split ∙ here)))
    either

-- before any write the first slot keeps 1, and the others nothing
pub opening_first : (slots : ℕ) → 0 < slots → slice_index (opening slots).kept 0 ≡ 1
opening_first slots some =
    let zeros : List ℕ = replicate slots 0 in
    let long : length zeros ≡ slots = length-replicate {A = ℕ} slots 0 in
    get_or-set_same zeros 0 1 0 (rw long some)

pub opening_others : (slots slot : ℕ) → slot ≢ 0 → slice_index (opening slots).kept slot ≡ 0
opening_others slots slot apart =
    let zeros : List ℕ = replicate slots 0 in
    get_or-set_other zeros 0 slot 1 0 apart ∙ zeros_below slots slot

-- a slot keeps nothing exactly where it isn't the first and nothing was pushed into it
pub keeps_nothing : (slots slot : ℕ) (journal : List Write) → 0 < slots → replays slots journal ≡ true → (slice_index (state_after slots journal).kept slot ≡ 0) ↔ ((slot ≢ 0) × (is_slot_listed slot (pushes journal) ≡ false))
keeps_nothing slots slot journal some h = (
  (λ nothing. (
    λ first. let positive : 0 < slice_index (opening slots).kept 0 = omega (arith, opening_first slots some) in
        let later = positive_kept 0 (opening slots) journal h (inl positive) in
        let nothing' : slice_index (state_after slots journal).kept 0 ≡ 0 = subst (λ k. slice_index (state_after slots journal).kept k ≡ 0) first nothing in
        omega (arith, later, nothing'),
    ⊎_elim (λ (t : is_slot_listed slot (pushes journal) ≡ true). absurd (let later = positive_kept slot (opening slots) journal h (inr t) in omega (arith, later, nothing)))
        (λ (f : is_slot_listed slot (pushes journal) ≡ false). f)
        (cases_Bool (is_slot_listed slot (pushes journal))),
  )),
  (λ both. same_kept slot (opening slots) journal both.1 ∙ opening_others slots slot both.0),
)
