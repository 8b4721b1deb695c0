-- A position in the journal, with the front there.
use Rattle.std.specs.Prelude.{◌≡◌, ℕ, Option, Some, None, List, length}
use Rattle.pin_book.specs.declared.write.Write.{Write}
use Rattle.pin_book.specs.Replay.{front_number, front_slot}
use Rattle.pin_table.specs.declared.position.Position.{Position}
use Rattle.pin_table.specs.declared.sitting.Plan.{Plan}

-- the position is that after these writes, and the front there is theirs
pub record IsAfter (slots : ℕ) (journal : List Write) (position : Position) : Type 0 where
  pub w : position.w ≡ length journal
  pub n : position.n ≡ front_number slots journal
  pub slot : position.slot ≡ front_slot slots journal

-- how many slots the table of a seat has
abbrev pub slots_of_plan : {P : Type 0} → Option (Plan P) → ℕ
slots_of_plan None = 0
slots_of_plan (Some plan) = plan.slots
