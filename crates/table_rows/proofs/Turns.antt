-- What stays of a reader's handles over an erase.
use Rattle.std.proofs.Common.{◌≡◌, ℕ, length, take, ap, ◌∙◌}
use Rattle.std.specs.Prelude.{Result, Ok, Err}
use Rattle.std.proofs.Math.Seq.{take-length}
use Rattle.std.proofs.lemmas.List.{take-append-le}
use Rattle.pin_core.specs.declared.view.View.{View}
use Rattle.pin_table.specs.declared.answers.Erased.{Erased}
use Rattle.pin_table.specs.declared.answers.EraseWhy.{EraseWhy}
use Rattle.pin_table.specs.declared.answers.EraseWhy.TheVariants as erase
use Rattle.pin_table.specs.declared.sitting.Plan.{Plan}
use Rattle.pin_table.specs.Turns.{TriesErase}
use Rattle.pin_table.proofs.PlaceLemmas.{no_shorter}

-- the pins, the role and the numbers stay, and what is seen goes on
pub record KeepsPins (v v' : View) : Type 0 where
  pub entries : v'.entries ≡ v.entries
  pub role : v'.role ≡ v.role
  pub numbers : v'.numbers ≡ v.numbers
  pub grows : take (length v.seen) v'.seen ≡ v.seen

pub erase_keeps : {P : Type 0} (plan : Plan P) (by n : ℕ) (v v' : View) (answer : Result Erased EraseWhy) → TriesErase plan by n v v' answer → KeepsPins v v'
erase_keeps plan by n v v' (Err (erase.Busy holder)) h = record { entries = ap (λ x. x.entries) h.view; role = ap (λ x. x.role) h.view; numbers = ap (λ x. x.numbers) h.view; grows = ap (λ x. take (length v.seen) x.seen) h.view ∙ take-length v.seen }
erase_keeps plan by n v v' (Err (erase.NotListed w)) h = record { entries = ap (λ x. x.entries) h.view; role = ap (λ x. x.role) h.view; numbers = ap (λ x. x.numbers) h.view; grows = ap (λ x. take (length v.seen) x.seen) h.view ∙ h.found.grows }
erase_keeps plan by n v v' (Err (erase.Nothing w)) h = record { entries = ap (λ x. x.entries) h.view; role = ap (λ x. x.role) h.view; numbers = ap (λ x. x.numbers) h.view; grows = ap (λ x. take (length v.seen) x.seen) h.view ∙ h.found.grows }
erase_keeps plan by n v v' (Err (erase.JournalFull w)) h = record { entries = ap (λ x. x.entries) h.view; role = ap (λ x. x.role) h.view; numbers = ap (λ x. x.numbers) h.view; grows = ap (λ x. take (length v.seen) x.seen) h.view ∙ h.found.grows }
erase_keeps plan by n v v' (Ok erased) h = record { entries = ap (λ x. x.entries) h.view; role = ap (λ x. x.role) h.view; numbers = ap (λ x. x.numbers) h.view; grows = ap (λ x. take (length v.seen) x.seen) h.view ∙ take-append-le _ _ _ (no_shorter _ _ h.found.grows) ∙ h.found.grows }
