-- The one place of several, where some have been looked at.
use Rattle.std.specs.Prelude.{ℕ, List, [], ◌∷◌, Option, Some, None}
use Rattle.tz_specs.specs.Word.{only_one}

-- the place found so far, and the places that follow
abbrev pub only_with : Option ℕ → List ℕ → Option ℕ
only_with None places = only_one places
only_with (Some found) [] = Some found
only_with (Some found) (place ∷ places) = None
