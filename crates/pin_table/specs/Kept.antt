-- What a call keeps that neither pins nor releases.
use Rattle.std.specs.Prelude.{◌≡◌, ℕ, length, take}
use Rattle.pin_book.specs.declared.payload.Payload.{Ghosts}
use Rattle.pin_core.specs.declared.view.View.{View}
use Rattle.pin_table.specs.declared.reader.Reader.{Reader}
use Rattle.pin_table.specs.Handles.{Handle, MadeBy}
use Rattle.pin_table.specs.Reader.{reader_view}
use Rattle.pin_table.specs.Table.{plan}

-- The reader is the same, with its number and its floor. Its pins stay, and what it has seen goes on from what it had seen.
pub record KeepsPins (v later : View) : Type 0 where
  pub role : later.role ≡ v.role
  pub numbers : later.numbers ≡ v.numbers
  pub floor : later.floor ≡ v.floor
  pub entries : later.entries ≡ v.entries
  pub grows : take (length v.seen) later.seen ≡ v.seen

-- The reader has made no write, and may still make as many.
pub record KeepsWrites (v later : View) : Type 0 where
  pub own : later.own ≡ v.own
  pub allowance : later.allowance ≡ v.allowance

module _ {P H : Type 0} (home : P → H) (source : P → ℕ) where
  -- each handle that was the reader's still is
  abbrev pub KeepsHandles : {meanings : Ghosts P H} → Reader P H meanings → Reader P H meanings → Type 0
  KeepsHandles reader later =
      (handle : Handle P) → MadeBy home source (plan reader.table.now) (reader_view reader) handle → MadeBy home source (plan later.table.now) (reader_view later) handle
