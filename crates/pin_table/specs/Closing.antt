-- A table that is closed: what the main had seen and had written, against the journal of its book.
use Rattle.std.specs.Prelude.{◌≡◌, ℕ, ◌<◌, All, List}
use Rattle.pin_book.specs.declared.write.Write.{Write}
use Rattle.pin_book.specs.Sequence.{writes_by, AreCounted}
use Rattle.pin_core.specs.declared.view.View.{View}

-- The main had seen the whole journal. Each write of it is by a reader number of the table, those by one number are the
-- main's own writes by it, in order, and bear 1, 2, 3 and so on.
pub record IsWhole (readers : ℕ) (main : View) (journal : List Write) : Type 0 where
  pub seen : main.seen ≡ journal
  pub writers : All (λ (write : Write). write.by < readers) journal
  pub counted : AreCounted journal
  pub own : (number : ℕ) → number < readers → writes_by number main.own ≡ writes_by number journal
