-- A book: a journal with its names, and the list that it replays to.
use Rattle.std.specs.Prelude.{◌≡◌, ℕ, ◌+◌, ◌≤◌, List, length, IsTrue}
use Rattle.pin_book.specs.declared.write.Write.{Write}
use Rattle.pin_book.specs.declared.listed.Listed.{Listed}
use Rattle.pin_book.specs.Replay.{ListState, state_after, replays}
use Rattle.pin_book.specs.Pushes.{pushes}
use Rattle.pin_book.specs.Sequence.{AreCounted}
use Rattle.pin_book.specs.Names.{with_names}
use Rattle.pin_book.specs.Standing.{Rows}
use Rattle.pin_book.specs.declared.limits.TheConstants.{FEWEST_SLOTS, MOST_SLOTS, MOST_WRITES}

-- how many slots the list has, how many writes may be made, those that were, and the names: the first version's, and
-- one for each push
pub record Chronicle : Type 0 where
  pub slots : ℕ
  pub room : ℕ
  pub journal : List Write
  pub names : List (List ℕ)

-- the list that the journal replays to
abbrev pub list_of : Chronicle → ListState
list_of book = state_after book.slots book.journal

-- its versions with their names, newest first
abbrev pub rows_of : Chronicle → List Listed
rows_of book = with_names book.names (list_of book).listed

-- what each book keeps: its journal replays, counts the writes of each number and is within its room, and each push
-- has a name
pub record IsBook (book : Chronicle) : Type 0 where
  pub replay : IsTrue (replays book.slots book.journal)
  pub count : AreCounted book.journal
  pub within : length book.journal ≤ book.room
  pub names : length book.names ≡ length (pushes book.journal) + 1

-- a book whose list stands as its journal replays
pub record IsShelved (book : Chronicle) (rows : Rows) : Type 0 where
  pub journal : IsBook book
  pub listed : rows.listed ≡ rows_of book
  pub kept : rows.kept ≡ (list_of book).kept
  pub few_slots : book.slots ≤ MOST_SLOTS
  pub some_slots : FEWEST_SLOTS ≤ book.slots
  pub few_writes : book.room ≤ MOST_WRITES
