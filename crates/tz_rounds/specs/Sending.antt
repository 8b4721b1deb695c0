-- A round's readers: what each knows as it goes out, and what the main knows once they have gone out, and once they are
-- back.
use Rattle.std.specs.Prelude.{◌≡◌, ℕ, ◌-◌, ◌≤◌, ◌<◌, List, [], ◌∷◌, length, take, Some, slice_get}
use Rattle.pin_book.specs.Sequence.{writes_by}
use Rattle.pin_core.specs.declared.view.View.{View}
use Rattle.pin_core.specs.Core.{times}

-- the seat has each reader number from one up to another once, and no other
pub record HasNumbers (from to : ℕ) (v : View) : Type 0 where
  pub each : (number : ℕ) → from ≤ number → number < to → times number v.numbers ≡ 1
  pub below : (number : ℕ) → number < from → times number v.numbers ≡ 0
  pub above : (number : ℕ) → to ≤ number → times number v.numbers ≡ 0
  pub many : length v.numbers ≡ to - from

-- The reader of a number went out with so many writes from a main that knew this before the round.
pub record GoesOut (number writes : ℕ) (main reader : View) : Type 0 where
  pub numbers : reader.numbers ≡ number ∷ []
  pub seen : reader.seen ≡ main.seen
  pub floor : reader.floor ≡ length main.seen
  pub own : reader.own ≡ writes_by number main.own
  pub entries : reader.entries ≡ []
  pub allowance : reader.allowance ≡ writes

-- What a main knows that knew `main` before the round, once the readers of the numbers below one are out.
pub record HasSent (sent readers : ℕ) (main main' : View) : Type 0 where
  pub numbers : HasNumbers sent readers main'
  pub seen : main'.seen ≡ main.seen
  pub floor : 0 < sent → main'.floor ≡ length main.seen
  pub own : (number : ℕ) → sent ≤ number → writes_by number main'.own ≡ writes_by number main.own
  pub none : (number : ℕ) → number < sent → writes_by number main'.own ≡ []

-- What a main knows that knew `main` before the round, once these readers are back, which had the numbers from 0 on.
pub record HasBack (readers : ℕ) (main : View) (backs : List View) (main' : View) : Type 0 where
  pub numbers : HasNumbers 0 (length backs) main'
  pub grows : take (length main.seen) main'.seen ≡ main.seen
  pub seen : (number : ℕ) (back : View) → slice_get backs number ≡ Some back → take (length back.seen) main'.seen ≡ back.seen
  pub own : (number : ℕ) (back : View) → slice_get backs number ≡ Some back → writes_by number main'.own ≡ back.own
  pub none : (number : ℕ) → length backs ≤ number → number < readers → writes_by number main'.own ≡ []

-- The seat's own writes are all by this number.
abbrev pub OwnsOnly : ℕ → View → Type 0
OwnsOnly number v = writes_by number v.own ≡ v.own
