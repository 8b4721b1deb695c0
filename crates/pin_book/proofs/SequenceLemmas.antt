-- How many writes are by a number, and what one more write makes of it.
use Rattle.std.proofs.Common.{◌≡◌, ℕ, ◌+◌, ◌<◌, ◌≤◌, true, false, eqb, List, [], ◌∷◌, ◌++◌, length, length-append, get_or-set_other, get_or-set_same, set, slice_index, refl, sym, ap, ◌∙◌, append-nil, ⊎_elim, subst, arith}
use Rattle.std.proofs.lemmas.Bool.{and_parts, and_from, eq-eqb, ne_eqb, cond-true, cond-false, cases_eq}
use Rattle.std.proofs.lemmas.List.Sums.{length-filter, count_by-le-length}
use Rattle.std.proofs.lemmas.List.Elements.{filter-append}
use Rattle.pin_book.specs.declared.write.Write.{Write}
use Rattle.pin_book.specs.declared.limits.TheConstants.{READER_NUMBERS}
use Rattle.pin_book.specs.Sequence.{writes_by, next_seq, counts_from, AreCounted}
use Rattle.pin_book.specs.Journal.{IsTally}

-- no more writes are by a number than there are
pub writes_by_le : (number : ℕ) (writes : List Write) → length (writes_by number writes) ≤ length writes
writes_by_le number writes =
    omega (arith, length-filter (λ (w : Write). eqb w.by number) writes, count_by-le-length (λ (w : Write). eqb w.by number) writes)

-- a write by the number stands last among its writes
pub writes_by_own : (writes : List Write) (write : Write) → writes_by write.by (writes ++ write ∷ []) ≡ writes_by write.by writes ++ write ∷ []
writes_by_own writes write =
    let own : eqb write.by write.by ≡ true = eq-eqb write.by write.by refl in
    filter-append (λ (w : Write). eqb w.by write.by) writes (write ∷ [])
    ∙ ap (λ xs. writes_by write.by writes ++ xs) (cond-true (eqb write.by write.by) (write ∷ []) [] own)

-- a write by another number leaves them
pub writes_by_other : (number : ℕ) (writes : List Write) (write : Write) → (write.by ≡ number → ⊥) → writes_by number (writes ++ write ∷ []) ≡ writes_by number writes
writes_by_other number writes write apart =
    let other : eqb write.by number ≡ false = ne_eqb write.by number apart in
    filter-append (λ (w : Write). eqb w.by number) writes (write ∷ [])
    ∙ (ap (λ xs. writes_by number writes ++ xs) (cond-false (eqb write.by number) (write ∷ []) [] other) ∙ append-nil (writes_by number writes))

counts_push : (before : ℕ) (writes : List Write) (write : Write) → counts_from before writes ≡ true → write.seq ≡ before + length writes + 1 → counts_from before (writes ++ write ∷ []) ≡ true
counts_push before [] write counted next =
    and_from (eqb write.seq (before + 1)) true (eq-eqb write.seq (before + 1) (omega (arith, next))) refl
counts_push before (first ∷ later) write counted next =
    let parts = and_parts (eqb first.seq (before + 1)) (counts_from (before + 1) later) counted in
    and_from (eqb first.seq (before + 1)) (counts_from (before + 1) (later ++ write ∷ [])) parts.0
    (counts_push (before + 1) later write parts.1 (omega (arith, next)))

-- a write that bears its number's next count
pub counted_push : (writes : List Write) (write : Write) → AreCounted writes → write.seq ≡ next_seq write.by writes → AreCounted (writes ++ write ∷ [])
counted_push writes write counted next number =
    ⊎_elim
    (λ (same : write.by ≡ number).
    let own : counts_from 0 (writes_by write.by (writes ++ write ∷ [])) ≡ true =
    rw (writes_by_own writes write) (counts_push 0 (writes_by write.by writes) write (counted write.by) (omega (arith, next))) in
    subst (λ n. counts_from 0 (writes_by n (writes ++ write ∷ [])) ≡ true) same own)
    (λ (apart : write.by ≡ number → ⊥). rw (writes_by_other number writes write apart) (counted number))
    (cases_eq write.by number)
