-- Words read one after another.
use Rattle.std.specs.Prelude.{ℕ, List, [], ◌∷◌, Option, Some, None}
use Rattle.tz_specs.specs.Choice.{◌>>=◌}

-- what the first word stands for, and the words after it
abbrev pub first : {A : Type 0} → (List ℕ → Option A) → List (List ℕ) → Option (A × List (List ℕ))
first read [] = None
first read (word ∷ words) = read word >>= λ value. Some (value, words)

-- the value, where no word is left
abbrev pub ends : {A : Type 0} → A → List (List ℕ) → Option A
ends value [] = Some value
ends value (word ∷ words) = None
