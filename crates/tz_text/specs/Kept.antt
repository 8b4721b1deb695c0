-- What is kept of the fields of a line.
use Rattle.std.specs.Prelude.{ℕ, ◌+◌, List, [], ◌∷◌, ◌++◌, length, take}
use Rattle.tz_text.specs.declared.kept.TheConstants.{MOST_KEPT}

-- the first fields, as many as are kept, and how many there are in all
pub record Kept : Type 0 where
  pub first : List (List ℕ)
  pub count : ℕ

-- what is kept of these fields
abbrev pub kept_of : List (List ℕ) → Kept
kept_of fields = record { first = take MOST_KEPT fields; count = length fields }

-- what is kept once these fields follow
abbrev pub with_later : Kept → List (List ℕ) → Kept
with_later kept later = record { first = take MOST_KEPT (kept.first ++ later); count = kept.count + length later }

-- what is kept once this field follows
abbrev pub with_field : Kept → List ℕ → Kept
with_field kept field = with_later kept (field ∷ [])
