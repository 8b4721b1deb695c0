-- What stands at home: the places with the copies of the versions that their slots keep, and the book.
use Rattle.std.specs.Prelude.{◌≡◌, ℕ, ◌<◌, List, length}
use mathlib.Core.Option.{Option, some}
use lib.ListN.{get_elem?}
use Rattle.pin_book.specs.declared.write.Write.{Write}
use Rattle.pin_core.specs.Core.{CoreState}
use Rattle.pin_core.specs.Lawful.{PlacesAtHome, BookAtHome}
use Rattle.pin_core.specs.Packing.{place, book_place}
use Rattle.pin_table.specs.declared.shelf.TheConstants.{SHELF_COPIES}
use Rattle.pin_table.specs.declared.cell.Cell.{Cell}
use Rattle.pin_table.specs.declared.cell.Cell.TheVariants.{Place, Desk}
use Rattle.pin_table.specs.declared.sitting.Plan.{Plan}
use Rattle.pin_table.specs.Layout.{cell_count}
use Rattle.pin_table.specs.Shelf.{AreOf}
use Rattle.pin_table.specs.Sources.{source_of, book_of}

module _ {P H : Type 0} (home : P → H) (source : P → ℕ) where
  -- a full shelf of versions of this home and source
  pub record IsStockedPlace (h : H) (src : ℕ) (cell : Cell P H) : Type 0 where
    pub shelf : List P
    pub is : cell ≡ Place shelf
    pub full : length shelf ≡ SHELF_COPIES
    pub alike : AreOf home source h src shelf

  -- at the base's slot there is a cell, and it is stocked with the version of this number, if the number isn't 0
  pub record IsPlaceAt (homes : List (Option (Cell P H))) (h : H) (journal : List Write) (at number : ℕ) : Type 0 where
    pub cell : Cell P H
    pub here : get_elem? homes at ≡ some (some cell)
    pub stocked : 0 < number → IsStockedPlace h (source_of journal number) cell

  module _ (name_of : H → ℕ → List ℕ) where
    -- the book of this journal is at home
    abbrev pub IsBookAt : List (Option (Cell P H)) → Plan P → List Write → Type 0
    IsBookAt homes plan journal =
        get_elem? homes (book_place plan.slots) ≡ some (some (Desk (book_of name_of (home plan.first) plan.slots plan.room journal)))

    -- the places and the book that no seat has taken are at home
    pub record StandsAtHome (plan : Plan P) (homes : List (Option (Cell P H))) (s : CoreState) : Type 0 where
      pub deep : length homes ≡ cell_count plan.slots
      pub places : PlacesAtHome (λ slot reader number. IsPlaceAt homes (home plan.first) s.journal (place slot reader) number) s
      pub book : BookAtHome (IsBookAt homes plan) s
