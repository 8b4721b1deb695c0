-- Schedules as runs of the core.
use Rattle.std.proofs.Common.{◌≡◌, ℕ, suc, ◌*◌, ◌<◌, List, [], ◌∷◌, Option, Some, None}
use mathlib.Core.Option.{some}
use lib.ListN.{get_elem?}
use Rattle.pin_core.specs.declared.view.View.{View}
use Rattle.pin_core.specs.Core.{CoreState}
use Rattle.pin_core.specs.Lawful.{Lawful}
use Rattle.pin_core.specs.Step.{HasReader, opening_state, opening_with_readers}
use Rattle.pin_core.specs.Run.{Moves, loads, adds, takes_off, exchanges, claims_slot, stores, gives_back, Reaches, stays, moves_on, KeepsStraysApart}
use Rattle.pin_core.proofs.Runs.{moves_keep}
use Rattle.pin_core.proofs.Strays.{strays_apart}
use Rattle.pin_schedule.specs.declared.event.Event.{Event}
use Rattle.pin_schedule.specs.declared.event.Kind.{Kind}
use Rattle.pin_schedule.specs.declared.event.Kind.TheVariants.{LoadFront, AddPin, TakePin, TakeTurn, Claim, StorePush, StoreErase, StoreTurn}
use Rattle.pin_schedule.specs.Pin.{taken_place}
use Rattle.pin_schedule.specs.Answer.{view_of}
use Rattle.pin_schedule.specs.Schedule.{entry_at, MayTakeAt, take_at, next_write, push_of, erase_of, MayPush, push_into, MayMake, after_kind, IsAllowed, after_event, after_events, AreAllowed}
use Rattle.pin_schedule.proofs.SplitLemmas.{opening_reached}

takes : (s : CoreState) (reader : ℕ) (v : View) (place : Option ℕ) → HasReader s (suc reader) reader v → MayTakeAt v place → Moves s (take_at s (suc reader) v place)
takes s reader v None has may = absurd may
takes s reader v (Some place) has may = takes_off (suc reader) reader v place (entry_at v.entries place) has may

pushes : (s : CoreState) (reader : ℕ) (v : View) (src : ℕ) (claimed : Option ℕ) → HasReader s (suc reader) reader v → MayPush s reader v src claimed → Moves s (push_into s reader v src claimed)
pushes s reader v src None has may = absurd may
pushes s reader v src (Some slot) has may = stores (suc reader) reader v (next_write reader v (push_of s src slot)) has may

kind_moves : (s : CoreState) (reader : ℕ) (v : View) (kind : Kind) → HasReader s (suc reader) reader v → MayMake s reader v kind → Moves s (after_kind s reader v kind)
kind_moves s reader v LoadFront has may = loads (suc reader) reader v has
kind_moves s reader v AddPin has may = adds (suc reader) reader v has may
kind_moves s reader v (TakePin slot) has may = takes s reader v (taken_place slot v.entries) has may.1
kind_moves s reader v TakeTurn has may = exchanges (suc reader) reader v has may
kind_moves s reader v (Claim slot) has may = claims_slot (suc reader) reader v slot has may
kind_moves s reader v (StorePush src) has may = pushes s reader v src v.claimed has may
kind_moves s reader v (StoreErase after) has may = stores (suc reader) reader v (next_write reader v (erase_of s after)) has may.1
kind_moves s reader v StoreTurn has may = gives_back (suc reader) reader v has may

pub event_moves : (s : CoreState) (event : Event) → IsAllowed s event → Moves s (after_event s event)
event_moves s event allowed = kind_moves s event.reader (view_of s event.reader) event.kind allowed.reader allowed.step

reaches_on : (s t : CoreState) (events : List Event) → Reaches s t → AreAllowed t events → Reaches s (after_events t events)
reaches_on s t [] run all = run
reaches_on s t (event ∷ later) run all = reaches_on s (after_event t event) later (moves_on t (after_event t event) run (event_moves t event all.0)) all.1

pub events_reach : (s : CoreState) (events : List Event) → AreAllowed s events → Reaches s (after_events s events)
events_reach s events all = reaches_on s s events stays all

pub events_keep : (s : CoreState) (events : List Event) → Lawful s → AreAllowed s events → Lawful (after_events s events)
events_keep s [] lawful all = lawful
events_keep s (event ∷ later) lawful all = events_keep (after_event s event) later (moves_keep s (after_event s event) lawful (event_moves s event all.0)) all.1

-- from the opening of a list on
pub opening_reaches : (slots readers room : ℕ) (events : List Event) → AreAllowed (opening_with_readers slots readers room) events → Reaches (opening_state slots readers (readers * room)) (after_events (opening_with_readers slots readers room) events)
opening_reaches slots readers room events all =
    reaches_on (opening_state slots readers (readers * room)) (opening_with_readers slots readers room) events (opening_reached slots readers room) all

pub strays_stand_apart : (slots readers room id : ℕ) (events : List Event) (v : View) → 0 < slots → AreAllowed (opening_with_readers slots readers room) events
    → get_elem? (after_events (opening_with_readers slots readers room) events).views id ≡ some v → KeepsStraysApart v
strays_stand_apart slots readers room id events v some_slot all at =
    strays_apart slots readers (readers * room) (after_events (opening_with_readers slots readers room) events) id v some_slot (opening_reaches slots readers room events all) at
