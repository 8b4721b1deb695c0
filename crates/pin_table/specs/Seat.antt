-- What a seat at the table knows, and how a table is made.
use Rattle.std.specs.Prelude.{◌≤◌, Some, None}
use Rattle.pin_book.specs.declared.limits.TheConstants.{FEWEST_SLOTS, MOST_SLOTS, MOST_WRITES, READER_NUMBERS}
use Rattle.pin_core.specs.declared.view.View.{View}
use Rattle.pin_core.specs.Core.{spent}
use Rattle.pin_core.specs.Step.{main_at_first}
use Rattle.pin_table.specs.declared.sitting.Plan.{Plan}
use Rattle.pin_table.specs.declared.sitting.Sitting.{Sitting}
use Rattle.pin_table.specs.declared.sitting.Key.{Key}

module _ {P : Type 0} where
  -- what the seat knows of the list
  abbrev pub view_of : Sitting P → View
  view_of v = v.core

  -- the same seat, which knows this of the list
  abbrev pub knowing : View → Sitting P → Sitting P
  knowing core v = record { core = core; plan = v.plan }

  -- how the table of this key was made
  abbrev pub plan_of : Key P → Plan P
  plan_of key = record { slots = key.slots; readers = key.readers; room = key.room; first = key.first.value }

  -- what the first seat of a table knows: it is the main's
  abbrev pub first_sitting : Plan P → Sitting P
  first_sitting plan = record { core = main_at_first plan.readers plan.room; plan = Some plan }

  -- what a seat knows after its reader was joined
  abbrev pub spent_sitting : Sitting P
  spent_sitting = record { core = spent; plan = None }

  -- the sizes that a table may have
  pub record HasSizes (plan : Plan P) : Type 0 where
    pub some_slots : FEWEST_SLOTS ≤ plan.slots
    pub few_slots : plan.slots ≤ MOST_SLOTS
    pub some_readers : 1 ≤ plan.readers
    pub few_readers : plan.readers ≤ READER_NUMBERS
    pub few_writes : plan.room ≤ MOST_WRITES
