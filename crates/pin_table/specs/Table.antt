-- What is known of a table as a whole, and which seats are at it.
use Rattle.std.specs.Prelude.{◌≡◌, Some}
use Rattle.atomic_table.specs.declared.shared.Seat.{Seat}
use Rattle.pin_book.specs.declared.payload.Payload.{Ghosts}
use Rattle.pin_table.specs.declared.cell.Cell.{Cell}
use Rattle.pin_table.specs.declared.main_seat.Main.{Main}
use Rattle.pin_table.specs.declared.sitting.Plan.{Plan}
use Rattle.pin_table.specs.declared.sitting.Sitting.{Sitting}
use Rattle.pin_table.specs.declared.table.PinTable.{PinTable}
use Rattle.pin_table.specs.Seat.{plan_of}

module _ {P H : Type 0} where
  -- how the table was made
  abbrev pub plan : PinTable P H → Plan P
  plan table = plan_of table.base.shared.key

  -- the seat is at this table
  pub record IsAt (table : PinTable P H) (seat : Seat (Cell P H) (Sitting P)) : Type 0 where
    pub table_id : seat.table_id ≡ table.base.shared.table_id
    pub plan_is : seat.me.0.plan ≡ Some (plan table)

  -- the main is that of this table
  abbrev pub IsMainOf : {meanings : Ghosts P H} → PinTable P H → Main P H meanings → Type 0
  IsMainOf table main = IsAt table main.seat
