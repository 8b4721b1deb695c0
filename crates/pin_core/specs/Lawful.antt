-- When a state is lawful. Each part stands alone and can be read alone. Each is one of three kinds: a sum over all
-- seats, a fact of each seat against what is shared, or a fact of what is shared alone.
use Rattle.std.specs.Prelude.{Bool, ◌≡◌, ℕ, ◌+◌, ◌*◌, ◌≤◌, ◌<◌, true, false, ◌==◌, if◌then◌else◌, is_some, Option, Some, None, List, [], ◌∷◌, length, take, All}
use mathlib.Core.Option.{some}
use lib.ListN.{get_elem?}
use Rattle.pin_book.specs.declared.write.Write.{Write}
use Rattle.pin_core.specs.declared.entry.Entry.{Entry}
use Rattle.pin_core.specs.declared.view.View.{View}
use Rattle.pin_core.specs.declared.view.Role.TheVariants as roles
use Rattle.pin_book.specs.Replay.{replays, front_number, front_slot, kept_number, is_taken}
use Rattle.pin_book.specs.Sequence.{writes_by, AreCounted}
use Rattle.pin_core.specs.Core.{CoreState, number_at, count_at, one_if, total, pins_at, held_at, has_number, number_count, has_turn, has_claimed, is_main, allowance_of, spent, EachSeat}

-- ---- (a) the pins ----

-- the count in each slot's word is the number of pins of all readers at that slot
abbrev pub CountsPins : CoreState → Type 0
CountsPins s = (slot : ℕ) → slot < s.slots → count_at s.words slot ≡ total (pins_at slot) s.views

-- ---- (b) the handles ----

-- the number of the version that this entry is about: the front's at the entry's position
abbrev pub entry_number : ℕ → List Write → Entry → ℕ
entry_number slots journal e = front_number slots (take e.position journal)

-- a held entry's number is the number that its slot's word shows
abbrev pub KeepsEntry : ℕ → List Write → (ℕ → ℕ) → Entry → Type 0
KeepsEntry slots journal shown e = e.held ≡ true → shown e.slot ≡ entry_number slots journal e

-- the same for each entry of the seat
abbrev pub KeepsHandles : ℕ → List Write → (ℕ → ℕ) → View → Type 0
KeepsHandles slots journal shown v = All (KeepsEntry slots journal shown) v.entries

-- ---- (c) the journal ----

-- there is a slot, the journal replays, the front word tells the front after it, and each slot's word shows the number
-- that the slot keeps after it, but for a slot that is claimed
pub record FollowsJournal (s : CoreState) : Type 0 where
  pub some_slot : 0 < s.slots
  pub replay : replays s.slots s.journal ≡ true
  pub front : s.front ≡ record { w = length s.journal; n = front_number s.slots s.journal; slot = front_slot s.slots s.journal }
  pub wide : length s.words ≡ s.slots
  pub kept : (slot : ℕ) → slot < s.slots → total (has_claimed slot) s.views ≡ 0 → number_at s.words slot ≡ kept_number s.slots s.journal slot

-- ---- (d) the turn ----

-- Who has the turn is a reader, the turn word names it, and it has seen the whole journal. Who has claimed a slot has
-- the turn; the slot isn't listed, and its word shows the number that comes next.
pub record KnowsTurn (slots : ℕ) (journal : List Write) (shown : ℕ → ℕ) (turn : Option ℕ) (v : View) : Type 0 where
  pub holder : v.turn ≡ true → (number : ℕ) × (v.role ≡ roles.Reader) × (v.numbers ≡ number ∷ []) × (turn ≡ Some number)
  pub current : v.turn ≡ true → v.seen ≡ journal
  pub claims : (slot : ℕ) → v.claimed ≡ Some slot → v.turn ≡ true
  pub inside : (slot : ℕ) → v.claimed ≡ Some slot → slot < slots
  pub unlisted : (slot : ℕ) → v.claimed ≡ Some slot → is_taken slots journal slot ≡ false
  pub coming : (slot : ℕ) → v.claimed ≡ Some slot → shown slot ≡ front_number slots journal + 1

-- the same for each seat; and one seat has the turn where the turn word names a reader, else none
pub record HasOneTurn (slots : ℕ) (journal : List Write) (shown : ℕ → ℕ) (turn : Option ℕ) (views : List View) : Type 0 where
  pub one : total has_turn views ≡ one_if (is_some turn)
  pub each : EachSeat (KnowsTurn slots journal shown turn) views

-- ---- (e) the numbers and the writes ----

-- A reader has one number. The main has no pin, no turn, no claimed slot, and names no slot as found pinned. The seen
-- journal is the front part of the journal. The own writes are those of the journal by the seat's numbers, each once
-- and in order, and stand in the seen journal.
pub record KnowsWrites (readers : ℕ) (journal : List Write) (v : View) : Type 0 where
  pub reader : v.role ≡ roles.Reader → (number : ℕ) × (v.numbers ≡ number ∷ [])
  pub main : v.role ≡ roles.Main → (v.entries ≡ []) × (v.turn ≡ false) × (v.claimed ≡ None) × (v.pinned ≡ [])
  pub inside : All (λ number. number < readers) v.numbers
  pub seen : take (length v.seen) journal ≡ v.seen
  pub own : (number : ℕ) → has_number number v ≡ 1 → writes_by number v.own ≡ writes_by number journal
  pub told : (number : ℕ) → has_number number v ≡ 1 → writes_by number v.seen ≡ writes_by number journal
  pub only : All (λ (write : Write). has_number write.by v ≡ 1) v.own

-- each reader number belongs to exactly one seat, one seat is the main's, each write is by a reader number, and those
-- by one number bear 1, 2, 3 and so on
pub record HasOneOwner (readers : ℕ) (journal : List Write) (views : List View) : Type 0 where
  pub numbers : (number : ℕ) → number < readers → total (has_number number) views ≡ 1
  pub whole : total number_count views ≡ readers
  pub main : total is_main views ≡ 1
  pub writers : All (λ (write : Write). write.by < readers) journal
  pub counted : AreCounted journal
  pub each : EachSeat (KnowsWrites readers journal) views

-- ---- (f) the positions ----

-- the slot was the front's after so many writes as the entry's position says, not before the floor and not after what
-- the seat has seen
pub record WasFront (slots : ℕ) (journal : List Write) (floor seen : ℕ) (e : Entry) : Type 0 where
  pub front : e.slot ≡ front_slot slots (take e.position journal)
  pub late : floor ≤ e.position
  pub told : e.position ≤ seen

-- the slot was the front's after some number of writes, not before the floor and not after what the seat has seen
abbrev pub WasFrontOnce : ℕ → List Write → ℕ → ℕ → ℕ → Type 0
WasFrontOnce slots journal floor seen slot = (w : ℕ) × (floor ≤ w) × (w ≤ seen) × (slot ≡ front_slot slots (take w journal))

-- each entry's slot was the front's at its position, and each slot that a claim found pinned was the front's once; all
-- seats know one floor, and have seen at least as many writes
pub record KnowsPlaces (slots : ℕ) (journal : List Write) (floor : ℕ) (v : View) : Type 0 where
  pub same : v.floor ≡ floor
  pub above : floor ≤ length v.seen
  pub entries : All (WasFront slots journal floor (length v.seen)) v.entries
  pub pinned : All (WasFrontOnce slots journal floor (length v.seen)) v.pinned

-- ---- (g) the room ----

-- the journal has room for its writes and for all that may still be made
abbrev pub LeavesRoom : CoreState → Type 0
LeavesRoom s = length s.journal + total allowance_of s.views ≤ s.room

-- ---- all of them ----

-- a spent seat knows nothing, so that sums over seats leave it out as facts of each seat do
abbrev pub SpentKnowNothing : List View → Type 0
SpentKnowNothing views = (id : ℕ) (v : View) → get_elem? views id ≡ some v → v.role ≡ roles.Spent → v ≡ spent

-- Beside these seven, spent seats count for nothing, and each seat has at most eight pins for each of its numbers, so
-- that counts fit their words.
pub record Lawful (s : CoreState) : Type 0 where
  pub pins : CountsPins s
  pub handles : EachSeat (KeepsHandles s.slots s.journal (number_at s.words)) s.views
  pub follows : FollowsJournal s
  pub turn : HasOneTurn s.slots s.journal (number_at s.words) s.turn s.views
  pub owners : HasOneOwner s.readers s.journal s.views
  pub places : EachSeat (KnowsPlaces s.slots s.journal s.floor) s.views
  pub room : LeavesRoom s
  pub spent : SpentKnowNothing s.views
  pub few : EachSeat (λ v. length v.entries ≤ 8 * length v.numbers) s.views

-- ---- (h) what is away from home, which a table with places and a book adds ----

-- how far the seat keeps the place of this reader at this slot away from home: once for each handle that it has there
-- where it is that reader's seat, and once where it has claimed the slot
abbrev pub away : ℕ → ℕ → View → ℕ
away slot reader v = has_claimed slot v + (if has_number reader v == 0 then 0 else held_at slot v)

-- each place that no seat keeps away is at home, by what a table means by that at the number which the slot's word shows
abbrev pub PlacesAtHome : (ℕ → ℕ → ℕ → Type 0) → CoreState → Type 0
PlacesAtHome IsAtHome s =
    (slot reader : ℕ) → slot < s.slots → reader < s.readers → total (away slot reader) s.views ≡ 0 → IsAtHome slot reader (number_at s.words slot)

-- the book is at home with this journal where no seat has the turn
abbrev pub BookAtHome : (List Write → Type 0) → CoreState → Type 0
BookAtHome IsAtHome s = s.turn ≡ None → IsAtHome s.journal

-- what a test of places, and one of journals, lets pass
abbrev pub Passes : (ℕ → ℕ → ℕ → Bool) → ℕ → ℕ → ℕ → Type 0
Passes test slot reader number = test slot reader number ≡ true

abbrev pub JournalPasses : (List Write → Bool) → List Write → Type 0
JournalPasses test journal = test journal ≡ true
