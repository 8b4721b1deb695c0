-- What the main's seat and a reader's know after they were one or become one.
use Rattle.std.specs.Prelude.{◌≡◌, ◌⊎◌, ℕ, ◌^◌, ◌==◌, Bool, true, false, ◌&&◌, ◌||◌, if◌then◌else◌, Option, Some, None, List, [], ◌∷◌, length, take}
use Rattle.pin_book.specs.declared.write.Change.{Change}
use Rattle.pin_book.specs.declared.write.Change.TheVariants.{Push, Erase}
use Rattle.pin_book.specs.declared.write.Write.{Write}
use Rattle.pin_core.specs.declared.view.View.{View}
use Rattle.pin_core.specs.Step.{left_over, split_off, taken_in}
use Rattle.pin_table.specs.declared.sitting.Plan.{Plan}
use Rattle.pin_table.specs.declared.sitting.Sitting.{Sitting}
use Rattle.pin_table.specs.Seat.{knowing}

-- of two journals the shorter one is a front part of the longer one
abbrev pub AreFronts : List Write → List Write → Type 0
AreFronts journal other = (take (length journal) other ≡ journal) ⊎ (take (length other) journal ≡ other)

-- the changes are one
abbrev pub is_same_change : Change → Change → Bool
is_same_change (Push n src slot) (Push m other place) = (n == m) && ((src == other) && (slot == place))
is_same_change (Push n src slot) (Erase after gone) = false
is_same_change (Erase after gone) (Push n src slot) = false
is_same_change (Erase after gone) (Erase before lost) = (after == before) && (gone == lost)

-- the writes are one
abbrev pub is_same_write : Write → Write → Bool
is_same_write a b = (a.by == b.by) && ((a.seq == b.seq) && is_same_change a.change b.change)

-- the journal is a front part of the other
abbrev pub is_front_of : List Write → List Write → Bool
is_front_of [] journal = true
is_front_of (write ∷ writes) [] = false
is_front_of (write ∷ writes) (other ∷ others) = is_same_write write other && is_front_of writes others

-- one of the two journals is a front part of the other
abbrev pub are_fronts : List Write → List Write → Bool
are_fronts journal other = is_front_of journal other || is_front_of other journal

-- a seat that may make more writes than any journal has room for, as none can
abbrev pub overdrawn : View → View
overdrawn v = record v { allowance = 2 ^ 32 }

module _ {P : Type 0} where
  -- how many reader numbers the table of a seat has
  abbrev pub readers_of_plan : Option (Plan P) → ℕ
  readers_of_plan None = 0
  readers_of_plan (Some plan) = plan.readers

  -- what the main's seat knows after a reader of this number went out with so many writes
  abbrev pub left_sitting : ℕ → ℕ → Sitting P → Sitting P
  left_sitting number writes v = knowing (left_over (readers_of_plan v.plan) number writes v.core) v

  -- what that reader's seat knows
  abbrev pub right_sitting : ℕ → ℕ → Sitting P → Sitting P
  right_sitting number writes v = knowing (split_off (readers_of_plan v.plan) number writes v.core) v

  -- what the main's seat knows after it took in the reader's
  abbrev pub joined_sitting : Sitting P → Sitting P → Sitting P
  joined_sitting v w = knowing (taken_in v.core w.core) v

  -- The same, said so that what the two had seen can be told from it: were neither a front part of the other, the seat would
  -- be overdrawn.
  abbrev pub met_sitting : Sitting P → Sitting P → Sitting P
  met_sitting v w = if are_fronts v.core.seen w.core.seen then joined_sitting v w else knowing (overdrawn v.core) v
