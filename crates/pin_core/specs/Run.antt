-- Whole runs: steps that are allowed, in any order and by any seats, from the opening on.
use Rattle.std.specs.Prelude.{◌≡◌, ℕ, ◌≢◌, true, false, Contains}
use mathlib.Core.Option.{some}
use lib.ListN.{get_elem?}
use Rattle.pin_book.specs.declared.write.Write.{Write}
use Rattle.pin_core.specs.declared.entry.Entry.{Entry}
use Rattle.pin_core.specs.declared.view.View.{View}
use Rattle.pin_core.specs.Core.{CoreState}
use Rattle.pin_core.specs.Step.{HasReader, MayPin, MayTake, MayTakeTurn, MayClaim, MayStore, MayGive, MaySplit, MayJoin, load_front, add_pin, take_pin, exchange_turn, claim, store_front, give_turn, split, join}

-- what one step, one split or one join that is allowed makes of a state
pub data Moves (s : CoreState) : CoreState → Type 0 where
  loads : (id number : ℕ) (v : View) → HasReader s id number v → Moves s (load_front s id v)
  adds : (id number : ℕ) (v : View) → HasReader s id number v → MayPin v → Moves s (add_pin s id v)
  takes_off : (id number : ℕ) (v : View) (place : ℕ) (e : Entry) → HasReader s id number v → MayTake place e v → Moves s (take_pin s id v place e)
  exchanges : (id number : ℕ) (v : View) → HasReader s id number v → MayTakeTurn v → Moves s (exchange_turn s id number v)
  claims_slot : (id number : ℕ) (v : View) (slot : ℕ) → HasReader s id number v → MayClaim s slot v → Moves s (claim s id v slot)
  stores : (id number : ℕ) (v : View) (write : Write) → HasReader s id number v → MayStore s number write v → Moves s (store_front s id v write)
  gives_back : (id number : ℕ) (v : View) → HasReader s id number v → MayGive v → Moves s (give_turn s id v)
  splits : (id : ℕ) (v : View) (number writes : ℕ) → get_elem? s.views id ≡ some v → MaySplit number writes v → Moves s (split s id v number writes)
  joins : (id : ℕ) (v : View) (other : ℕ) (w : View) → get_elem? s.views id ≡ some v → get_elem? s.views other ≡ some w → MayJoin v w → Moves s (join s id v other w)

-- what any number of them make of it, one after another
pub data Reaches (s : CoreState) : CoreState → Type 0 where
  stays : Reaches s s
  moves_on : (t u : CoreState) → Reaches s t → Moves t u → Reaches s u

-- the seat has no stray at a slot where it has a handle
abbrev pub KeepsStraysApart : View → Type 0
KeepsStraysApart v =
    (e other : Entry) → Contains v.entries e → Contains v.entries other → e.held ≡ true → other.held ≡ false → e.slot ≢ other.slot
