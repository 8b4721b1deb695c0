-- The names of versions, which stand beside the journal: the first version's, and then one for each push. So the
-- version of number n has the n-th name.
use Rattle.std.specs.Prelude.{ℕ, ◌-◌, List, [], map, slice_index_or}
use Rattle.pin_book.specs.Replay.{Edition}
use Rattle.pin_book.specs.declared.listed.Listed.{Listed}

-- the name of the version of this number
abbrev pub name_of : List (List ℕ) → ℕ → List ℕ
name_of names number = slice_index_or names (number - 1) []

-- a listed version with its name
abbrev pub with_name : List (List ℕ) → Edition → Listed
with_name names edition = record { n = edition.n; src = edition.src; slot = edition.slot; name = name_of names edition.n }

-- these versions with their names
abbrev pub with_names : List (List ℕ) → List Edition → List Listed
with_names names editions = map (with_name names) editions
