-- A table as it is made.
use Rattle.std.specs.Prelude.{ℕ, ◌-◌, List, [], ◌∷◌, ◌++◌, replicate, slice_set}
use Rattle.pin_book.specs.Book.{Chronicle}
use Rattle.pin_core.specs.Packing.{packed_slot, packed_front, book_place}
use Rattle.pin_table.specs.declared.layout.TheConstants.{FRONT_WORD, FIRST_SLOT_WORD}
use Rattle.pin_table.specs.declared.cell.Cell.{Cell}
use Rattle.pin_table.specs.declared.cell.Cell.TheVariants.{Empty, Place, Desk}
use Rattle.pin_table.specs.Layout.{word_count}
use Rattle.pin_table.specs.Shelf.{full_shelf}

-- its words: version 1 is the front, in slot 0; no slot has a pin, and nobody has the turn
abbrev pub opening_words : ℕ → List ℕ
opening_words slots =
    slice_set (slice_set (replicate (word_count slots) 0) FRONT_WORD (packed_front record { w = 0; n = 1; slot = 0 }))
    FIRST_SLOT_WORD (packed_slot record { number = 1; count = 0 })

-- what the slots of its base hold: the places of slot 0 the copies of its first version, the last one its book
abbrev pub opening_cells : {P H : Type 0} → ℕ → ℕ → P → Chronicle → List (Cell P H)
opening_cells slots readers first book =
    replicate readers (Place (full_shelf first)) ++ replicate (book_place slots - readers) Empty ++ Desk book ∷ []
