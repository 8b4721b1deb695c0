-- The sources of the versions of a journal, and what the versions of one home are called.
use Rattle.std.specs.Prelude.{ℕ, List, map}
use Rattle.pin_book.specs.declared.write.Write.{Write}
use Rattle.pin_book.specs.Replay.{Edition}
unfoldable pub use Rattle.pin_book.specs.Sources.{source_of}
use Rattle.pin_book.specs.Sources.{editions}
use Rattle.pin_book.specs.Book.{Chronicle}

-- the sources of the versions in the order of their numbers
abbrev pub sources : List Write → List ℕ
sources journal = map (λ (e : Edition). e.src) (editions journal)

module _ {H : Type 0} (name_of : H → ℕ → List ℕ) where
  -- the book of a table with this journal: each version has the name of its home and source
  abbrev pub book_of : H → ℕ → ℕ → List Write → Chronicle
  book_of home slots room journal =
      record { slots = slots; room = room; journal = journal; names = map (name_of home) (sources journal) }
