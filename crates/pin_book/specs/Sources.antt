-- Of which source the version of a number is, by the journal alone.
use Rattle.std.specs.Prelude.{ℕ, ◌-◌, List, ◌∷◌, slice_index_or}
use Rattle.pin_book.specs.declared.write.Write.{Write}
use Rattle.pin_book.specs.Replay.{Edition}
use Rattle.pin_book.specs.Pushes.{pushes}

-- version 1, of source 0, which is listed before any write
abbrev pub first_edition : Edition
first_edition = record { n = 1; src = 0; slot = 0 }

-- all versions that the list ever had, in the order of their numbers
abbrev pub editions : List Write → List Edition
editions journal = first_edition ∷ pushes journal

-- the source of the version of this number
unfoldable pub source_of : List Write → ℕ → ℕ
source_of journal number = (slice_index_or (editions journal) (number - 1) first_edition).src
