-- A journal that has its room from the start, and what it keeps at hand.
use Rattle.std.specs.Prelude.{◌≡◌, ℕ, ◌<◌, List, length, slice_index}
use Rattle.pin_book.specs.declared.write.Write.{Write}
use Rattle.pin_book.specs.declared.limits.TheConstants.{READER_NUMBERS}
use Rattle.pin_book.specs.Sequence.{writes_by}

-- the writes so far, and how many there may be
pub record Writes : Type 0 where
  pub room : ℕ
  pub writes : List Write

-- how many writes are by each reader's number
abbrev pub IsTally : List ℕ → List Write → Type 0
IsTally counts writes =
    (number : ℕ) → number < READER_NUMBERS → slice_index counts number ≡ length (writes_by number writes)
