-- The copies of one version at a place.
use Rattle.std.specs.Prelude.{◌≡◌, ℕ, Option, Some, None, List, [], ◌∷◌, replicate}
use Rattle.std.specs.Arc.{arc_value}
use Rattle.std.specs.declared.sync.Arc.{Arc}
use Rattle.std.specs.declared.alloc.Global.{Global}
use Rattle.pin_table.specs.declared.shelf.TheConstants.{SHELF_COPIES}

module _ {P : Type 0} where
  -- the versions that these fields hold copies of, in the order of the fields
  abbrev pub copies_in : List (Option (Arc P Global)) → List P
  copies_in [] = []
  copies_in (None ∷ fields) = copies_in fields
  copies_in (Some copy ∷ fields) = arc_value copy ∷ copies_in fields

  -- no field behind an empty one holds a copy
  abbrev pub HaveNoGap : List (Option (Arc P Global)) → Type 0
  HaveNoGap [] = Unit {0}
  HaveNoGap (None ∷ fields) = copies_in fields ≡ []
  HaveNoGap (Some copy ∷ fields) = HaveNoGap fields

  -- as many copies of this version as a reader may have handles
  abbrev pub full_shelf : P → List P
  full_shelf version = replicate SHELF_COPIES version

  module _ {H : Type 0} (home : P → H) (source : P → ℕ) where
    -- each version is of this home and this source
    abbrev pub AreOf : H → ℕ → List P → Type 0
    AreOf h src [] = Unit {0}
    AreOf h src (version ∷ versions) = (home version ≡ h) × (source version ≡ src) × AreOf h src versions

    -- the versions have one home and one source
    abbrev pub AreAlike : List P → Type 0
    AreAlike [] = Unit {0}
    AreAlike (version ∷ versions) = AreOf (home version) (source version) versions
