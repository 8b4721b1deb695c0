-- The parts round a mark, by the first place of the mark.
use Rattle.std.specs.Prelude.{ℕ, ◌+◌, List, [], ◌∷◌, take, drop, Option, Some, None}
use Rattle.tz_specs.specs.Parts.{parts_at}

-- the part before that place and the parts behind it, or the whole where there is none
abbrev pub parts_round : Option ℕ → ℕ → List ℕ → List (List ℕ)
parts_round None mark word = word ∷ []
parts_round (Some place) mark word = take place word ∷ parts_at mark (drop (place + 1) word)
