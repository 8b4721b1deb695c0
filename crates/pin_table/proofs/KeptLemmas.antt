-- What the rule of a table gives: the sizes, a lawful state, and what a seat knows there.
use Rattle.std.proofs.Common.{◌≡◌, ◌≢◌, ℕ, ◌<◌, List, [], ◌∷◌, sym, ap, subst, ⊎_elim, arith, ne_eqb}
use Rattle.std.specs.List.{All}
use Rattle.std.proofs.lemmas.Bool.{cases_eq}
use Rattle.std.proofs.lemmas.List.Elements.{All-head, All-tail}
use mathlib.Core.Option.{some}
use lib.ListN.{get_elem?}
use Rattle.atomic_table.specs.Table.{State}
use Rattle.atomic_table.proofs.Lists.{at_map}
use Rattle.pin_core.specs.declared.view.View.{View}
use Rattle.pin_core.specs.declared.view.Role.TheVariants as roles
use Rattle.pin_core.specs.Core.{CoreState, times, one_if, has_number}
use Rattle.pin_core.specs.Lawful.{Lawful}
use Rattle.pin_core.specs.Step.{opening_state}
use Rattle.pin_core.proofs.Runs.{reached}
use Rattle.pin_core.proofs.Sums.{term_le}
use Rattle.pin_table.specs.declared.cell.Cell.{Cell}
use Rattle.pin_table.specs.declared.sitting.Plan.{Plan}
use Rattle.pin_table.specs.declared.sitting.Sitting.{Sitting}
use Rattle.pin_table.specs.Seat.{view_of}
use Rattle.pin_table.specs.Rule.{KeepsList}
use Rattle.pin_table.proofs.OldStrays.{sizes_stay}

-- ---- a state that meets the rule ----

module _ {P H : Type 0} (home : P → H) (source : P → ℕ) (name_of : H → ℕ → List ℕ) (plan : Plan P) (s : State (Cell P H) (Sitting P)) (h : KeepsList home source name_of plan s) where
  pub kept_sizes : (h.core.slots ≡ plan.slots) × (h.core.readers ≡ plan.readers) × (h.core.room ≡ plan.room)
  kept_sizes = sizes_stay (opening_state plan.slots plan.readers plan.room) h.core h.reached

  pub kept_lawful : Lawful h.core
  kept_lawful = let some_slots = h.sizes.some_slots in reached plan.slots plan.readers plan.room h.core (omega arith) h.reached

  pub kept_view : (id : ℕ) (v : Sitting P) → get_elem? s.views id ≡ some v → get_elem? h.core.views id ≡ some v.core
  kept_view id v at = subst (λ (l : List View). get_elem? l id ≡ some v.core) (sym h.views) (at_map view_of s.views id v at)

-- ---- reader numbers ----

-- a number that a list of small numbers has is small
pub below_of : (most number : ℕ) (numbers : List ℕ) → All (λ n. n < most) numbers → 0 < times number numbers → number < most
below_of most number [] all some_time = absurd (omega arith)
below_of most number (n ∷ ns) all some_time = ⊎_elim
    (λ (is : n ≡ number). let low = All-head (λ n. n < most) n ns all in omega arith)
    (λ (no : n ≢ number). let zero = ap one_if (ne_eqb n number no) in below_of most number ns (All-tail (λ n. n < most) n ns all) (omega arith)) (cases_eq n number)

-- a number that a seat has, it has once
pub has_once : (s : CoreState) (id number : ℕ) (v : View) → Lawful s → get_elem? s.views id ≡ some v → v.role ≢ roles.Spent → 0 < has_number number v → (number < s.readers) × (has_number number v ≡ 1)
has_once s id number v h at live some_time =
    let low = below_of s.readers number v.numbers ((h.owners.each id v at live).inside) some_time in
    let all = h.owners.numbers number low in let mine = term_le (has_number number) s.views id v at in (low, omega arith)
