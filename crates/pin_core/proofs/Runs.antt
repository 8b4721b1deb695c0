-- What steps reach from the opening is lawful.
use Rattle.std.proofs.Common.{ℕ, ◌<◌}
use Rattle.pin_core.specs.Core.{CoreState}
use Rattle.pin_core.specs.Lawful.{Lawful}
use Rattle.pin_core.specs.Step.{opening_state}
use Rattle.pin_core.specs.Run.{Moves, loads, adds, takes_off, exchanges, claims_slot, stores, gives_back, splits, joins, Reaches, stays, moves_on}
use Rattle.pin_core.proofs.Loads as of_load
use Rattle.pin_core.proofs.Pins as of_pin
use Rattle.pin_core.proofs.Turns as of_turn
use Rattle.pin_core.proofs.Claims as of_claim
use Rattle.pin_core.proofs.Stores as of_store
use Rattle.pin_core.proofs.Splits as of_split
use Rattle.pin_core.proofs.Joins as of_join
use Rattle.pin_core.proofs.Opening.{opens}

pub moves_keep : (s t : CoreState) → Lawful s → Moves s t → Lawful t
moves_keep s t h (loads id number v has) = of_load.loads s id number v h has
moves_keep s t h (adds id number v has may) = of_pin.pins s id number v h has may
moves_keep s t h (takes_off id number v place e has may) = of_pin.unpins s id number v place e h has may
moves_keep s t h (exchanges id number v has may) = of_turn.exchanges s id number v h has may
moves_keep s t h (claims_slot id number v slot has may) = of_claim.claims_keep s id number v slot h has may
moves_keep s t h (stores id number v write has may) = of_store.stores s id number v write h has may
moves_keep s t h (gives_back id number v has may) = of_turn.gives_back s id number v h has may
moves_keep s t h (splits id v number writes here may) = of_split.splits s id v number writes h here may
moves_keep s t h (joins id v other w here there may) = of_join.joins s id v other w h here there may

pub runs_keep : (s t : CoreState) → Lawful s → Reaches s t → Lawful t
runs_keep s t h stays = h
runs_keep s t h (moves_on u t' run move) = moves_keep u t' (runs_keep s u h run) move

pub reached : (slots readers room : ℕ) (s : CoreState) → 0 < slots → Reaches (opening_state slots readers room) s → Lawful s
reached slots readers room s some_slot run = runs_keep (opening_state slots readers room) s (opens slots readers room some_slot) run
