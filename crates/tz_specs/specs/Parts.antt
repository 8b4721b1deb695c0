-- The parts of a list of bytes round each such byte: one more than the byte stands in it.
use Rattle.std.specs.Prelude.{ℕ, ◌==◌, if◌then◌else◌, List, [], ◌∷◌}

-- the byte at the front of the first part
abbrev pub onto_part : ℕ → List (List ℕ) → List (List ℕ)
onto_part byte [] = (byte ∷ []) ∷ []
onto_part byte (part ∷ parts) = (byte ∷ part) ∷ parts

abbrev pub parts_at : ℕ → List ℕ → List (List ℕ)
parts_at mark [] = [] ∷ []
parts_at mark (byte ∷ bytes) =
    if byte == mark then [] ∷ parts_at mark bytes else onto_part byte (parts_at mark bytes)
