-- Groups of files, which are read one after another, and the files of each one after another. Each group has its own
-- limit: the bytes that its files may have together.
use Rattle.std.specs.Prelude.{◌≡◌, ℕ, nat_lt, Bool, List, ◌∷◌, ◌++◌, IsFalse}
use Rattle.std.specs.List.{AllZip, Any, list_any}
use Rattle.tz_types.specs.declared.limit.TheConstants.{MOST_BYTES}
use Rattle.tz_types.specs.Source.{bytes_together}
use Rattle.tz_io.specs.Files.{FilesState, FileFailed}
use Rattle.tz_cli.specs.Outcome.{Holds, MayReadAll, FailsToRead, ReadsTooMuch}

-- the files tell that these are the contents of the groups, each of its own
abbrev pub HoldsGroups : FilesState → List (List (List ℕ)) → List (List (List ℕ)) → Type 0
HoldsGroups files groups contents = AllZip (λ names those. AllZip (Holds files) names those) groups contents

-- the contents may be what was read of the groups, each of its own
abbrev pub MayReadGroups : FilesState → List (List (List ℕ)) → List (List (List ℕ)) → Type 0
MayReadGroups files groups contents = AllZip (MayReadAll files) groups contents

-- the contents of some group are too large together
abbrev pub is_too_large : List (List (List ℕ)) → Bool
is_too_large contents = list_any (λ those. nat_lt MOST_BYTES (bytes_together those)) contents

-- The groups before this one may have these contents, none of which are too large together.
pub record ReadsGroupsUpTo (files : FilesState) (groups : List (List (List ℕ))) (group : List (List ℕ)) : Type 0 where
  pub first : List (List (List ℕ))
  pub later : List (List (List ℕ))
  pub groups_are : groups ≡ first ++ group ∷ later
  pub contents : List (List (List ℕ))
  pub read : MayReadGroups files first contents
  pub few_bytes : IsFalse (is_too_large contents)

-- A read fails of the first file that isn't read, in its group.
abbrev pub FailsToReadGroups : FilesState → FilesState → List (List (List ℕ)) → Type 0
FailsToReadGroups before after groups =
    (group : List (List ℕ)) × ReadsGroupsUpTo before groups group × FailsToRead before after group

-- Some first files of a group are too large together, and no group before it was.
abbrev pub ReadsTooMuchOfGroups : FilesState → List (List (List ℕ)) → Type 0
ReadsTooMuchOfGroups files groups =
    (group : List (List ℕ)) × ReadsGroupsUpTo files groups group
    × (contents : List (List ℕ)) × ReadsTooMuch files group contents

-- A fault of a file of some group was counted.
abbrev pub AnyFailed : FilesState → FilesState → List (List (List ℕ)) → Type 0
AnyFailed before after groups = Any (λ names. Any (FileFailed before after) names) groups
