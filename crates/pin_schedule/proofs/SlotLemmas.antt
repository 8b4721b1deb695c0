-- Where a slot goes among rising slots.
use Rattle.std.proofs.Common.{◌≡◌, ℕ, zero, suc, ◌<◌, ◌≤◌, List, [], ◌∷◌, length, get_or, ltb, refl, sym, ap, ◌∙◌, arith}
use Rattle.std.specs.List.{insert, prefix_len, take_while}
use Rattle.std.proofs.lemmas.Bool.{ltb-true, ltb-false, lt-ltb, le-ltb, eq-eqb, ne_eqb}
use Rattle.std.proofs.lemmas.List.Sums.{prefix_len-le-length, prefix_len_passes, prefix_len_stops}
use Rattle.std.proofs.lemmas.List.Folds.{length-prefix_len}
use Rattle.pin_core.specs.Step.{with_number}

stays : (slot place : ℕ) (xs : List ℕ) → place < length xs → ((k : ℕ) → k < place → get_or xs k 0 < slot) → get_or xs place 0 ≡ slot → with_number slot xs ≡ xs
stays slot place [] low before is = absurd (omega arith)
stays slot zero (x ∷ xs) low before is = rw (le-ltb slot x (omega arith), eq-eqb slot x (sym is)) refl
stays slot (suc k) (x ∷ xs) low before is =
    let less : x < slot = before 0 (omega arith) in
    rw (le-ltb slot x (omega arith), ne_eqb slot x (λ e. omega arith)) (ap (λ (ys : List ℕ). x ∷ ys) (stays slot k xs (omega arith) (λ j low. before (suc j) (omega arith)) is))

goes : (slot place : ℕ) (xs : List ℕ) → place ≤ length xs → ((k : ℕ) → k < place → get_or xs k 0 < slot) → (place < length xs → slot < get_or xs place 0) → with_number slot xs ≡ insert xs place slot
goes slot zero [] low before after = refl
goes slot (suc k) [] low before after = absurd (omega arith)
goes slot zero (x ∷ xs) low before after = rw (lt-ltb slot x (after (omega arith))) refl
goes slot (suc k) (x ∷ xs) low before after =
    let less : x < slot = before 0 (omega arith) in
    rw (le-ltb slot x (omega arith), ne_eqb slot x (λ e. omega arith)) (ap (λ (ys : List ℕ). x ∷ ys) (goes slot k xs (omega arith) (λ j low. before (suc j) (omega arith)) (λ low. after (omega arith))))

module _ (slot : ℕ) (xs : List ℕ) (place : ℕ) (is : place ≡ length (take_while (λ other. ltb other slot) xs)) where
  here : place ≡ prefix_len (λ other. ltb other slot) xs
  here = is ∙ length-prefix_len (λ other. ltb other slot) xs

  before : (k : ℕ) → k < place → get_or xs k 0 < slot
  before k low = ltb-true (get_or xs k 0) slot (prefix_len_passes (λ other. ltb other slot) xs k 0 (omega (arith, here)))

  -- the slot is there
  pub slot_there : place < length xs → get_or xs place 0 ≡ slot → xs ≡ with_number slot xs
  slot_there low same = sym (stays slot place xs low before same)

  -- it isn't
  pub slot_goes : (place < length xs → get_or xs place 0 ≡ slot → ⊥) → insert xs place slot ≡ with_number slot xs
  slot_goes other = sym (goes slot place xs (omega (arith, here, prefix_len-le-length (λ (n : ℕ). ltb n slot) xs)) before
      (λ low. let stop = ltb-false (get_or xs place 0) slot (ap (λ n. ltb (get_or xs n 0) slot) here ∙ prefix_len_stops (λ n. ltb n slot) xs 0 (omega (arith, here))) in
      let apart = other low in omega arith))
