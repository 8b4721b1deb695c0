-- A schedule: which event is allowed in a state of the shared list, and what it makes of the state. Each is a step of
-- the core, as that defines it.
use Rattle.std.specs.Prelude.{◌≡◌, ℕ, ◌+◌, ◌<◌, false, Option, Some, None, List, [], ◌∷◌, length, take, fold, slice_get, slice_index_or}
use Rattle.pin_core.specs.declared.entry.Entry.{Entry}
use Rattle.pin_book.specs.declared.write.Write.{Write}
use Rattle.pin_book.specs.declared.write.Change.{Change}
use Rattle.pin_book.specs.declared.write.Change.TheVariants.{Push, Erase}
use Rattle.pin_core.specs.declared.view.View.{View}
use Rattle.pin_book.specs.Replay.{state_after, greatest_below, front_number}
use Rattle.pin_core.specs.Core.{CoreState}
use Rattle.pin_core.specs.Step.{HasReader, MayPin, MayTake, MayTakeTurn, MayClaim, MayStore, MayGive, load_front, add_pin, take_pin, exchange_turn, claim, store_front, give_turn}
use Rattle.pin_schedule.specs.declared.event.Event.{Event}
use Rattle.pin_schedule.specs.declared.event.Kind.{Kind}
use Rattle.pin_schedule.specs.declared.event.Kind.TheVariants.{LoadFront, AddPin, TakePin, TakeTurn, Claim, StorePush, StoreErase, StoreTurn}
use Rattle.pin_schedule.specs.Pin.{taken_place}
use Rattle.pin_schedule.specs.Answer.{seat_of, view_of}

-- ---- a pin is taken off ----

-- the entry in this place
abbrev pub entry_at : List Entry → ℕ → Entry
entry_at entries place = slice_index_or entries place record { slot = 0; position = 0; held = false }

-- there is a pin to take off, in this place
abbrev pub MayTakeAt : View → Option ℕ → Type 0
MayTakeAt v None = ⊥
MayTakeAt v (Some place) = MayTake place (entry_at v.entries place) v

-- it is taken off
abbrev pub take_at : CoreState → ℕ → View → Option ℕ → CoreState
take_at s id v None = s
take_at s id v (Some place) = take_pin s id v place (entry_at v.entries place)

-- ---- a write is made ----

-- the reader's next write, with this change
abbrev pub next_write : ℕ → View → Change → Write
next_write reader v change = record { by = reader; seq = length v.own + 1; change = change }

-- the push of the number that comes next, made of this source, into this slot
abbrev pub push_of : CoreState → ℕ → ℕ → Change
push_of s src slot = Push (front_number s.slots s.journal + 1) src slot

-- the erase of the version behind the one of this number
abbrev pub erase_of : CoreState → ℕ → Change
erase_of s after = Erase after (greatest_below after (state_after s.slots s.journal).listed)

-- a push into the claimed slot is allowed
abbrev pub MayPush : CoreState → ℕ → View → ℕ → Option ℕ → Type 0
MayPush s reader v src None = ⊥
MayPush s reader v src (Some slot) = MayStore s reader (next_write reader v (push_of s src slot)) v

-- it is made
abbrev pub push_into : CoreState → ℕ → View → ℕ → Option ℕ → CoreState
push_into s reader v src None = s
push_into s reader v src (Some slot) = store_front s (seat_of reader) v (next_write reader v (push_of s src slot))

-- ---- events ----

-- the reader, which knows v, may make a step of this kind. An erase has no claimed slot: that is the schedule's own
-- condition.
abbrev pub MayMake : CoreState → ℕ → View → Kind → Type 0
MayMake s reader v LoadFront = Unit {0}
MayMake s reader v AddPin = MayPin v
MayMake s reader v (TakePin slot) = (slot < s.slots) × MayTakeAt v (taken_place slot v.entries)
MayMake s reader v TakeTurn = MayTakeTurn v
MayMake s reader v (Claim slot) = MayClaim s slot v
MayMake s reader v (StorePush src) = MayPush s reader v src v.claimed
MayMake s reader v (StoreErase after) = (v.claimed ≡ None) × MayStore s reader (next_write reader v (erase_of s after)) v
MayMake s reader v StoreTurn = MayGive v

-- what the step makes of the state
abbrev pub after_kind : CoreState → ℕ → View → Kind → CoreState
after_kind s reader v LoadFront = load_front s (seat_of reader) v
after_kind s reader v AddPin = add_pin s (seat_of reader) v
after_kind s reader v (TakePin slot) = take_at s (seat_of reader) v (taken_place slot v.entries)
after_kind s reader v TakeTurn = exchange_turn s (seat_of reader) reader v
after_kind s reader v (Claim slot) = claim s (seat_of reader) v slot
after_kind s reader v (StorePush src) = push_into s reader v src v.claimed
after_kind s reader v (StoreErase after) = store_front s (seat_of reader) v (next_write reader v (erase_of s after))
after_kind s reader v StoreTurn = give_turn s (seat_of reader) v

-- the event's reader is out, and may make its step
pub record IsAllowed (s : CoreState) (event : Event) : Type 0 where
  pub reader : HasReader s (seat_of event.reader) event.reader (view_of s event.reader)
  pub step : MayMake s event.reader (view_of s event.reader) event.kind

-- what the event makes of the state
abbrev pub after_event : CoreState → Event → CoreState
after_event s event = after_kind s event.reader (view_of s event.reader) event.kind

-- what these events make of it, one after another
abbrev pub after_events : CoreState → List Event → CoreState
after_events s events = fold after_event s events

-- each of these events is allowed in the state after those before it
abbrev pub AreAllowed : CoreState → List Event → Type 0
AreAllowed s [] = Unit {0}
AreAllowed s (event ∷ later) = IsAllowed s event × AreAllowed (after_event s event) later

-- the event of this index is the first that isn't allowed
pub record IsFirstRefused (s : CoreState) (events : List Event) (index : ℕ) : Type 0 where
  pub before : AreAllowed s (take index events)
  pub refused : (event : Event) × (slice_get events index ≡ Some event) × ¬ (IsAllowed (after_events s (take index events)) event)
