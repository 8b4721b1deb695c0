-- What a step leaves at home and with the seat that takes or gives back a run of slots.
use Rattle.std.proofs.Common.{◌≡◌, ◌⊎◌, ℕ, zero, suc, ◌+◌, ◌<◌, ◌≤◌, List, [], ◌∷◌, ◌++◌, length, set, sym, refl, ap, ◌∙◌, subst, inl, inr, arith, length-set}
use mathlib.Core.Option.{Option, some, none, some-ne-none, some-injective}
use lib.ListN.{get_elem?}
use Rattle.atomic_table.specs.Table.{carried_after, homes_after, Valid, put_back, rest}
use Rattle.atomic_table.proofs.Lists.{set_here, set_else}
use Rattle.pin_table.specs.Runs.{run_from, takes_run, gives_run}

module _ {S : Type 0} where
  -- ---- a run is taken ----

  pub carried_taken : (c : List (ℕ × S)) (b : ℕ) (xs : List S) → carried_after c (takes_run b xs) ≡ run_from b xs ++ c
  carried_taken c b [] = refl
  carried_taken c b (x ∷ xs) = ap (λ (l : List (ℕ × S)). (b, x) ∷ l) (carried_taken c (suc b) xs)

  pub taken_else : (hs : List (Option S)) (c : List (ℕ × S)) (b : ℕ) (xs : List S) (j : ℕ) → (j < b) ⊎ (b + length xs ≤ j) → get_elem? (homes_after hs c (takes_run b xs)) j ≡ get_elem? hs j
  taken_else hs c b [] j apart = refl
  taken_else hs c b (x ∷ xs) j (inl low) = set_else (homes_after hs c (takes_run (suc b) xs)) b j none (λ e. omega arith) ∙ taken_else hs c (suc b) xs j (inl (omega arith))
  taken_else hs c b (x ∷ xs) j (inr high) = set_else (homes_after hs c (takes_run (suc b) xs)) b j none (λ e. omega arith) ∙ taken_else hs c (suc b) xs j (inr (omega arith))

  pub taken_length : (hs : List (Option S)) (c : List (ℕ × S)) (b : ℕ) (xs : List S) → length (homes_after hs c (takes_run b xs)) ≡ length hs
  taken_length hs c b [] = refl
  taken_length hs c b (x ∷ xs) = length-set (homes_after hs c (takes_run (suc b) xs)) b none ∙ taken_length hs c (suc b) xs

  pub taken_valid : (hs : List (Option S)) (c : List (ℕ × S)) (b : ℕ) (xs : List S) → ((i : ℕ) (x : S) → get_elem? xs i ≡ some x → get_elem? hs (b + i) ≡ some (some x)) → Valid hs c (takes_run b xs)
  taken_valid hs c b [] at = tt
  taken_valid hs c b (x ∷ xs) at = (
    taken_valid hs c (suc b) xs (λ i y e. let to : suc b + i ≡ b + suc i = omega arith in subst (λ (n : ℕ). get_elem? hs n ≡ some (some y)) (sym to) (at (suc i) y e)),
    taken_else hs c (suc b) xs b (inl (omega arith)) ∙ (let to : b ≡ b + 0 = omega arith in subst (λ (n : ℕ). get_elem? hs n ≡ some (some x)) (sym to) (at 0 x refl)),
  )

  -- what lies at so many slots side by side
  pub gathered : (hs : List (Option S)) (b n : ℕ) → ((i : ℕ) → i < n → (x : S) × (get_elem? hs (b + i) ≡ some (some x)))
      → (xs : List S) × (length xs ≡ n) × ((i : ℕ) (x : S) → get_elem? xs i ≡ some x → get_elem? hs (b + i) ≡ some (some x))
  gathered hs b zero at = ([], refl, λ i x e. absurd (some-ne-none x (sym e)))
  gathered hs b (suc n) at =
      let first = at 0 (omega arith) in
      let more = gathered hs (suc b) n (λ i l. let t = at (suc i) (omega arith) in let to : suc b + i ≡ b + suc i = omega arith in (t.0, subst (λ (m : ℕ). get_elem? hs m ≡ some (some t.0)) (sym to) t.1)) in
      (first.0 ∷ more.0, ap suc more.1, both hs b first.0 more.0 first.1 more.2)
    where
      both : (hs : List (Option S)) (b : ℕ) (y : S) (ys : List S) → get_elem? hs (b + 0) ≡ some (some y) → ((i : ℕ) (x : S) → get_elem? ys i ≡ some x → get_elem? hs (suc b + i) ≡ some (some x))
          → (i : ℕ) (x : S) → get_elem? (y ∷ ys) i ≡ some x → get_elem? hs (b + i) ≡ some (some x)
      both hs b y ys here later zero x e = subst (λ (z : S). get_elem? hs (b + 0) ≡ some (some z)) (some-injective y x e) here
      both hs b y ys here later (suc i) x e = let to : suc b + i ≡ b + suc i = omega arith in subst (λ (m : ℕ). get_elem? hs m ≡ some (some x)) to (later i x e)

  -- ---- a run is given back ----

  pub carried_given : (c : List (ℕ × S)) (b : ℕ) (xs : List S) → carried_after (run_from b xs ++ c) (gives_run (length xs)) ≡ c
  carried_given c b [] = refl
  carried_given c b (x ∷ xs) = carried_given c (suc b) xs

  pub given_else : (hs : List (Option S)) (c : List (ℕ × S)) (b : ℕ) (xs : List S) (j : ℕ) → (j < b) ⊎ (b + length xs ≤ j) → get_elem? (homes_after hs (run_from b xs ++ c) (gives_run (length xs))) j ≡ get_elem? hs j
  given_else hs c b [] j apart = refl
  given_else hs c b (x ∷ xs) j (inl low) = given_else (set hs b (some x)) c (suc b) xs j (inl (omega arith)) ∙ set_else hs b j (some x) (λ e. omega arith)
  given_else hs c b (x ∷ xs) j (inr high) = given_else (set hs b (some x)) c (suc b) xs j (inr (omega arith)) ∙ set_else hs b j (some x) (λ e. omega arith)

  pub given_here : (hs : List (Option S)) (c : List (ℕ × S)) (b : ℕ) (xs : List S) (i : ℕ) (y : S) → b + length xs ≤ length hs → get_elem? xs i ≡ some y
      → get_elem? (homes_after hs (run_from b xs ++ c) (gives_run (length xs))) (b + i) ≡ some (some y)
  given_here hs c b [] i y l e = absurd (some-ne-none y (sym e))
  given_here hs c b (x ∷ xs) zero y l e = let to : b ≡ b + 0 = omega arith in subst (λ (n : ℕ). get_elem? (homes_after (set hs b (some x)) (run_from (suc b) xs ++ c) (gives_run (length xs))) n ≡ some (some y)) to
      (given_else (set hs b (some x)) c (suc b) xs b (inl (omega arith)) ∙ (set_here hs b (some x) (omega arith) ∙ ap (λ (z : S). some (some z)) (some-injective x y e)))
  given_here hs c b (x ∷ xs) (suc i) y l e = let to : suc b + i ≡ b + suc i = omega arith in subst (λ (n : ℕ). get_elem? (homes_after (set hs b (some x)) (run_from (suc b) xs ++ c) (gives_run (length xs))) n ≡ some (some y)) to
      (given_here (set hs b (some x)) c (suc b) xs i y (let len = length-set hs b (some x) in omega arith) e)

  pub given_length : (hs : List (Option S)) (c : List (ℕ × S)) (b : ℕ) (xs : List S) → length (homes_after hs (run_from b xs ++ c) (gives_run (length xs))) ≡ length hs
  given_length hs c b [] = refl
  given_length hs c b (x ∷ xs) = given_length (set hs b (some x)) c (suc b) xs ∙ length-set hs b (some x)

  pub given_valid : (hs : List (Option S)) (c : List (ℕ × S)) (n : ℕ) → Valid hs c (gives_run n)
  given_valid hs c zero = tt
  given_valid hs c (suc n) = (tt, given_valid (put_back hs c) (rest c) n)

  -- a run has a value at each of its slots
  pub within_run : (xs : List S) (i : ℕ) → i < length xs → (x : S) × (get_elem? xs i ≡ some x)
  within_run [] i l = absurd (omega arith)
  within_run (x ∷ xs) zero l = (x, refl)
  within_run (x ∷ xs) (suc i) l = within_run xs i (omega arith)
