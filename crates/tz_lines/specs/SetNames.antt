-- Names that lines of zones give to rule sets, each once, in the order in which they came.
use Rattle.std.specs.Prelude.{◌≡◌, ℕ, List, [], ◌∷◌, ◌++◌, if◌then◌else◌}
use Rattle.std.specs.List.{list_any}
use Rattle.tz_specs.specs.Value.{is_exactly}

-- the names, when one more came
abbrev pub with_set_name : List ℕ → List (List ℕ) → List (List ℕ)
with_set_name name names = if list_any (λ other. is_exactly other name) names then names else names ++ name ∷ []

-- some more names stand behind these
abbrev pub AreBegun : List (List ℕ) → List (List ℕ) → Type 0
AreBegun names others = (more : List (List ℕ)) × (others ≡ names ++ more)
