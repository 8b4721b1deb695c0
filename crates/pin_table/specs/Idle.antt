-- A reader between two of its calls.
use Rattle.std.specs.Prelude.{◌≡◌, ℕ, false, None, Contains}
use Rattle.pin_core.specs.declared.entry.Entry.{Entry}
use Rattle.pin_core.specs.declared.view.View.{View}
use Rattle.pin_core.specs.Core.{IsReader}
use Rattle.pin_table.specs.Handles.{HoldsFront}

-- the view is that of the reader of this number, which hasn't the turn and has claimed no slot, and whose pins all hold a
-- front
pub record IsIdle (slots number : ℕ) (v : View) : Type 0 where
  pub reader : IsReader number v
  pub turn : v.turn ≡ false
  pub claimed : v.claimed ≡ None
  pub handles : (e : Entry) → Contains v.entries e → HoldsFront slots v.seen e
