-- What contracts see of files, and what a read leaves of it.
use Rattle.std.specs.Prelude.{◌≡◌, ℕ, ◌+◌, ◌≤◌, List, Option, Some, None, IfSome, take}
use Rattle.tz_io.specs.Counts.{Rose}

-- the content of each file, by its name
abbrev pub FileContents : Type 0
FileContents = List ℕ → Option (List ℕ)

-- What files hold, where they tell it, and how often a read of each name has failed.
pub record FilesState : Type 0 where
  pub contents : Option FileContents
  pub faults : List ℕ → ℕ

-- files that don't tell what they hold, and count the faults of all names together
abbrev pub untold : ℕ → FilesState
untold faults = record { contents = None; faults = λ name. faults }

-- The bytes are the first limit + 1 of the content of that name, or all of it where it is shorter. Of files that don't
-- tell what they hold, nothing is said.
abbrev pub IsFront : FilesState → List ℕ → ℕ → List ℕ → Type 0
IsFront files name limit bytes =
    IfSome files.contents (λ contents. (content : List ℕ) × (contents name ≡ Some content) × (bytes ≡ take (limit + 1) content))

-- A fault of that name was counted.
abbrev pub FileFailed : FilesState → FilesState → List ℕ → Type 0
FileFailed before after name = Rose (before.faults name) (after.faults name)

-- The files hold what they held, and no count fell.
pub record KeepsFiles (before after : FilesState) : Type 0 where
  pub contents : after.contents ≡ before.contents
  pub faults : (name : List ℕ) → before.faults name ≤ after.faults name
