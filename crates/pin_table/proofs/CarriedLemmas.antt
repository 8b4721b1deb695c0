-- What a seat carries, turned and exchanged.
use Rattle.std.proofs.Common.{◌≡◌, ℕ, zero, suc, ◌+◌, ◌<◌, ◌≤◌, List, [], ◌∷◌, ◌++◌, length, get_or, take, drop, sym, refl, ap, ◌∙◌, subst, ⊎_elim, arith, Bool, true, false, cond, ◌==◌, eqb-true, append_assoc, Some, None}
use Rattle.std.proofs.Math.Seq.{take-suc, drop-cons}
use Rattle.std.proofs.lemmas.Bool.{cases_Bool, lt-ltb}
use Rattle.std.proofs.lemmas.List.{map-append, length-map, take-append-drop}
use Rattle.std.proofs.lemmas.List.Quantifiers.{position-Some}
use Rattle.std.specs.Prelude.{position, nat_lt}
use Rattle.std.specs.List.{position_or_len}
use Rattle.atomic_table.specs.Table.{rest, turned}
use Rattle.pin_core.specs.Core.{times, one_if}
use Rattle.pin_table.specs.Carried.{slots_of, Exchanges}

-- a number that stands in the list is found before its end
pub found_before : (slot : ℕ) (slots : List ℕ) → 1 ≤ times slot slots → position_or_len (λ other. other == slot) slots < length slots
found_before slot [] once = absurd (omega arith)
found_before slot (x ∷ xs) once = ⊎_elim
    (λ (same : (x == slot) ≡ true). rw same (omega arith))
    (λ (other : (x == slot) ≡ false). let none = ap one_if other in let more = found_before slot xs (omega arith) in rw other (omega arith))
    (cases_Bool (x == slot))

-- what is found before the end is found
pub not_none : {X : Type 0} (p : X → Bool) (xs : List X) → position_or_len p xs < length xs → position p xs ≡ None → ⊥
not_none p xs inside missing = some_is (position_or_len p xs) (nat_lt (position_or_len p xs) (length xs)) (lt-ltb _ _ inside) missing
  where
    some_is : (n : ℕ) (b : Bool) → b ≡ true → cond b (Some n) None ≡ None → ⊥
    some_is n true t e = absurd (cc)
    some_is n false t e = absurd (cc)

-- a number that stands in the list is found
pub none_missing : (slot : ℕ) (slots : List ℕ) → 1 ≤ times slot slots → position (λ other. other == slot) slots ≡ None → ⊥
none_missing slot slots once missing = not_none (λ other. other == slot) slots (found_before slot slots once) missing

module _ {S : Type 0} where
  -- the head turned behind the others
  pub slots_of-turned : (c : List (ℕ × S)) → slots_of (turned c) ≡ drop 1 (slots_of c) ++ take 1 (slots_of c)
  slots_of-turned [] = refl
  slots_of-turned (x ∷ xs) = map-append (λ (y : ℕ × S). y.0) xs (x ∷ [])

  -- what stands so far behind the head
  pub carried_from : (c : List (ℕ × S)) (i d : ℕ) → i < length c → (x : S) × (drop i c ≡ (get_or (slots_of c) i d, x) ∷ drop (suc i) c)
  carried_from [] i d inside = absurd (omega arith)
  carried_from (x ∷ xs) zero d inside = (x.1, refl)
  carried_from (x ∷ xs) (suc i) d inside = carried_from xs i d (omega arith)

  -- one more turn
  pub turned_more : (c : List (ℕ × S)) (i : ℕ) → i < length c → turned (drop i c ++ take i c) ≡ drop (i + 1) c ++ take (i + 1) c
  turned_more c i inside =
      let d : ℕ × S = (0, (carried_from c i 0 inside).0) in let y : ℕ × S = get_or c i d in let more : suc i ≡ i + 1 = omega arith in
      ap (λ (l : List (ℕ × S)). turned (l ++ take i c)) (drop-cons c i d inside)
      ∙ (append_assoc (drop (suc i) c) (take i c) (y ∷ [])
      ∙ (ap (λ (l : List (ℕ × S)). drop (suc i) c ++ l) (sym (take-suc c i d inside))
      ∙ ap (λ (n : ℕ). drop n c ++ take n c) more))

  -- where a slot is found, the seat carries it
  pub carried_there : (c : List (ℕ × S)) (slot i : ℕ) → position (λ other. other == slot) (slots_of c) ≡ Some i → (i < length c) × ((x : S) × (drop i c ≡ (slot, x) ∷ drop (suc i) c))
  carried_there c slot i found =
      let t = position-Some (λ other. other == slot) (slots_of c) i 0 found in let inside : i < length c = subst (λ n. i < n) (length-map c (λ (x : ℕ × S). x.0)) t.0 in
      let here = carried_from c i 0 inside in
      (inside, (here.0, here.1 ∙ ap (λ (n : ℕ). (n, here.0) ∷ drop (suc i) c) (eqb-true _ _ t.1)))

  -- so many turns bring it to the head
  pub at_head : (c c2 : List (ℕ × S)) (slot i : ℕ) (x : S) → drop i c ≡ (slot, x) ∷ drop (suc i) c → c2 ≡ drop i c ++ take i c → c2 ≡ (slot, x) ∷ rest c2
  at_head c c2 slot i x here turns = let is : c2 ≡ (slot, x) ∷ (drop (suc i) c ++ take i c) = turns ∙ ap (λ (l : List (ℕ × S)). l ++ take i c) here in
      is ∙ ap (λ (l : List (ℕ × S)). (slot, x) ∷ l) (sym (ap rest is))

  -- what the base exchanges at the head is exchanged in the list
  pub exchanges : (c c2 : List (ℕ × S)) (slot i : ℕ) (x old new : S) → drop i c ≡ (slot, x) ∷ drop (suc i) c → c2 ≡ drop i c ++ take i c → c2 ≡ (slot, old) ∷ rest c2
      → Exchanges slot old new c ((slot, new) ∷ rest c2)
  exchanges c c2 slot i x old new here turns head =
      let is : c2 ≡ (slot, x) ∷ (drop (suc i) c ++ take i c) = turns ∙ ap (λ (l : List (ℕ × S)). l ++ take i c) here in
      let tail : rest c2 ≡ drop (suc i) c ++ take i c = ap rest is in
      let same : (slot, x) ∷ drop (suc i) c ≡ (slot, old) ∷ drop (suc i) c = value_at_head x old (drop (suc i) c) (rest c2) (drop (suc i) c ++ take i c) (sym is ∙ head) in
      record {
        before = take i c;
        behind = drop (suc i) c;
        was = sym (take-append-drop i c) ∙ ap (λ (l : List (ℕ × S)). take i c ++ l) (here ∙ same);
        is = ap (λ (l : List (ℕ × S)). (slot, new) ∷ l) tail;
      }
    where
      value_of : S → List (ℕ × S) → S
      value_of d [] = d
      value_of d (y ∷ ys) = y.1

      value_at_head : (x old : S) (behind xs ys : List (ℕ × S)) → (slot, x) ∷ ys ≡ (slot, old) ∷ xs → (slot, x) ∷ behind ≡ (slot, old) ∷ behind
      value_at_head x old behind xs ys e = ap (λ (l : List (ℕ × S)). (slot, value_of x l) ∷ behind) e
