-- What a journal pushes, and what it erases.
use Rattle.std.specs.Prelude.{ℕ, Bool, false, ◌==◌, List, [], ◌∷◌, flat_map}
use Rattle.std.specs.List.{list_any}
use Rattle.pin_book.specs.declared.write.Change.{Change}
use Rattle.pin_book.specs.declared.write.Change.TheVariants.{Push, Erase}
use Rattle.pin_book.specs.declared.write.Write.{Write}
use Rattle.pin_book.specs.Replay.{Edition}

-- the version that a change lists, if it lists one
abbrev pub pushed_by : Change → List Edition
pushed_by (Push n src slot) = record { n = n; src = src; slot = slot } ∷ []
pushed_by (Erase after gone) = []

-- the versions that these writes list, in order
abbrev pub pushes : List Write → List Edition
pushes journal = flat_map (λ write. pushed_by write.change) journal

-- a change takes the version of this number off the list
abbrev pub erases : ℕ → Change → Bool
erases number (Push n src slot) = false
erases number (Erase after gone) = gone == number

-- one of these writes does
abbrev pub is_erased : ℕ → List Write → Bool
is_erased number journal = list_any (λ write. erases number write.change) journal
