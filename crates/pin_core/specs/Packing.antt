-- How the words of a state are packed into numbers of 64 bits, and where places stand. All by constants.
use Rattle.std.specs.Prelude.{ℕ, ◌+◌, ◌*◌, ◌^◌, Option, Some, None}
use Rattle.pin_book.specs.declared.limits.TheConstants.{READER_NUMBERS}
use Rattle.pin_core.specs.declared.entry.SlotWord.{SlotWord}
use Rattle.pin_core.specs.Core.{Front}

-- a slot's word: the number in the upper 32 bits, the count in the lower
abbrev pub packed_slot : SlotWord → ℕ
packed_slot word = word.number * 2 ^ 32 + word.count

-- the front word: how many writes there are in the upper 32 bits, then the number in 26 and the slot in 6
abbrev pub packed_front : Front → ℕ
packed_front front = front.w * 2 ^ 32 + front.n * 2 ^ 6 + front.slot

-- the turn word: 0, or one more than the number of the reader that has the turn
abbrev pub packed_turn : Option ℕ → ℕ
packed_turn None = 0
packed_turn (Some number) = number + 1

-- Where the place of this reader at this slot stands. There is one for each reader number, whatever the number of
-- readers, so that the places of a slot are a run of as many and two places are told apart by linear arithmetic.
abbrev pub place : ℕ → ℕ → ℕ
place slot reader = READER_NUMBERS * slot + reader

-- where the book stands: behind the last place
abbrev pub book_place : ℕ → ℕ
book_place slots = READER_NUMBERS * slots
