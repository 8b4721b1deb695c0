-- Where the words of a table stand. Its places and its book stand as `pin_core` packs them.
use Rattle.std.specs.Prelude.{ℕ, ◌+◌, ◌*◌}
use Rattle.pin_table.specs.declared.layout.TheConstants.{FIRST_SLOT_WORD, WORD_STRIDE}
use Rattle.pin_core.specs.Packing.{book_place}

-- the word of this slot
abbrev pub slot_word : ℕ → ℕ
slot_word slot = FIRST_SLOT_WORD + WORD_STRIDE * slot

-- how many words a table of so many slots has
abbrev pub word_count : ℕ → ℕ
word_count slots = FIRST_SLOT_WORD + WORD_STRIDE * slots

-- how many slots its base has: the places, and behind them the book's
abbrev pub cell_count : ℕ → ℕ
cell_count slots = book_place slots + 1
