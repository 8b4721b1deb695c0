-- The slots of the base that a seat carries, each with what it holds, the head first.
use Rattle.std.specs.Prelude.{◌≡◌, ℕ, List, ◌∷◌, ◌++◌, map}

module _ {S : Type 0} where
  -- which slots a seat carries
  abbrev pub slots_of : List (ℕ × S) → List ℕ
  slots_of carried = map (λ (x : ℕ × S). x.0) carried

  -- The slot held the first value and holds the second now. It is at the head, and what stood before it stands behind
  -- the others.
  pub record Exchanges (slot : ℕ) (old new : S) (carried carried' : List (ℕ × S)) : Type 0 where
    pub before : List (ℕ × S)
    pub behind : List (ℕ × S)
    pub was : carried ≡ before ++ (slot, old) ∷ behind
    pub is : carried' ≡ (slot, new) ∷ behind ++ before
