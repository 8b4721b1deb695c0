-- What the records of these tests are called.
use Rattle.std.specs.Prelude.{ℕ, ◌+◌, ◌%◌, List, [], ◌∷◌}

-- one of 26 letters, by the record's source
abbrev pub record_name : ℕ → List ℕ
record_name src = (src % 26 + 97) ∷ []
