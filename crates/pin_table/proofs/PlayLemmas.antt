-- A step leaves what the seat knows of how its table was made.
use Rattle.std.proofs.Common.{◌≡◌, ◌≢◌, ℕ, List, ap, refl, ⊎_elim, None}
use Rattle.std.proofs.lemmas.Bool.{cases_eq}
use Rattle.atomic_table.specs.Table.{Me}
use Rattle.pin_book.specs.declared.write.Change.{Change}
use Rattle.pin_book.specs.declared.write.Change.TheVariants.{Push, Erase}
use Rattle.pin_core.specs.Packing.{packed_turn}
use Rattle.pin_table.specs.declared.cell.Cell.{Cell}
use Rattle.pin_table.specs.declared.sitting.Plan.{Plan}
use Rattle.pin_table.specs.declared.sitting.Sitting.{Sitting}
use Rattle.pin_table.specs.Plays.{TurnTried, SlotTried, IsErase, PushesStocked, HasStockedRun, unpinned_word}

module _ {P H : Type 0} where
  -- the seats know one plan
  abbrev pub SamePlan : Me (Cell P H) (Sitting P) → Me (Cell P H) (Sitting P) → Type 0
  SamePlan m m' = m'.0.plan ≡ m.0.plan

  pub tried_plan : (home : P → H) (name_of : H → ℕ → List ℕ) (plan : Plan P) (number : ℕ) (m : Me (Cell P H) (Sitting P)) (found : ℕ) (m' : Me (Cell P H) (Sitting P)) → TurnTried home name_of plan number m found m' → SamePlan m m'
  tried_plan home name_of plan number m found m' told = ⊎_elim
      (λ (won : found ≡ packed_turn None). ap (λ (x : Me (Cell P H) (Sitting P)). x.0.plan) (told.won won).seat)
      (λ (lost : found ≢ packed_turn None). ap (λ (x : Me (Cell P H) (Sitting P)). x.0.plan) (told.lost lost).seat)
      (cases_eq found (packed_turn None))

  pub claim_plan : (plan : Plan P) (slot : ℕ) (m : Me (Cell P H) (Sitting P)) (found : ℕ) (m' : Me (Cell P H) (Sitting P)) → SlotTried plan slot m found m' → SamePlan m m'
  claim_plan plan slot m found m' told = ⊎_elim
      (λ (won : found ≡ unpinned_word plan.slots m.0.core.seen slot). ap (λ (x : Me (Cell P H) (Sitting P)). x.0.plan) (told.won won).seat)
      (λ (lost : found ≢ unpinned_word plan.slots m.0.core.seen slot). ap (λ (x : Me (Cell P H) (Sitting P)). x.0.plan) (told.lost lost).seat)
      (cases_eq found (unpinned_word plan.slots m.0.core.seen slot))

  -- a push of a stocked run, by its parts
  pub push_is : (home : P → H) (source : P → ℕ) (plan : Plan P) (change : Change) (carried : List (ℕ × Cell P H)) → PushesStocked home source plan change carried
      → (n : ℕ) × (src : ℕ) × (slot : ℕ) × (change ≡ Push n src slot) × HasStockedRun home source plan slot src carried
  push_is home source plan (Push n src slot) carried run = (n, src, slot, refl, run)
  push_is home source plan (Erase after gone) carried none = absurd none

-- an erase, by its parts
pub erase_is : (change : Change) → IsErase change → (after : ℕ) × (gone : ℕ) × (change ≡ Erase after gone)
erase_is (Push n src slot) none = absurd none
erase_is (Erase after gone) is = (after, gone, refl)
