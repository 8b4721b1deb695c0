-- The steps of the protocol: when each is allowed, and what it leaves. A step of one of seven kinds is made by a reader
-- that is out, and changes one word and what that reader's seat knows. A split and a join change two seats.
use Rattle.std.specs.Prelude.{◌≡◌, ℕ, ◌+◌, ◌-◌, ◌*◌, ◌<◌, ◌≤◌, true, false, not, nat_lt, ◌==◌, if◌then◌else◌, is_some, Option, Some, None, List, [], ◌∷◌, ◌++◌, length, map, filter, replicate, slice_get, slice_set, Contains}
use Rattle.std.specs.List.{remove, range_with_len}
use mathlib.Core.Option.{some}
use lib.ListN.{get_elem?}
use Rattle.pin_book.specs.declared.write.Write.{Write}
use Rattle.pin_book.specs.declared.write.Change.{Change}
use Rattle.pin_book.specs.declared.write.Change.TheVariants.{Push, Erase}
use Rattle.pin_core.specs.declared.entry.Entry.{Entry}
use Rattle.pin_core.specs.declared.entry.SlotWord.{SlotWord}
use Rattle.pin_core.specs.declared.view.View.{View}
use Rattle.pin_core.specs.declared.view.Role.TheVariants as roles
use Rattle.pin_book.specs.Replay.{state_after, allowed, front_number, front_slot, is_taken}
use Rattle.pin_book.specs.Sequence.{writes_by}
use Rattle.pin_core.specs.Core.{CoreState, Front, number_at, count_at, has_number, held_count, stray_count, IsReader, spent, with_view}

-- this seat is that of the reader of this number, and knows v
pub record HasReader (s : CoreState) (id number : ℕ) (v : View) : Type 0 where
  pub here : get_elem? s.views id ≡ some v
  pub reader : IsReader number v

-- the same, and the reader has this entry
pub record HasEntry (s : CoreState) (id number : ℕ) (v : View) (e : Entry) : Type 0 where
  pub seat : HasReader s id number v
  pub among : Contains v.entries e

-- the same, and holds it: a handle stands on it
pub record HasHandle (s : CoreState) (id number : ℕ) (v : View) (e : Entry) : Type 0 where
  pub seat : HasReader s id number v
  pub among : Contains v.entries e
  pub held : e.held ≡ true

-- some seat is that of the reader of this number
abbrev pub IsOut : CoreState → ℕ → Type 0
IsOut s number = (id : ℕ) × (v : View) × HasReader s id number v

-- ---- 1: load the front word ----
-- Always allowed.

-- the reader has seen the journal so far
abbrev pub loaded : List Write → View → View
loaded journal v = record v { seen = journal; loads = v.loads + 1 }

abbrev pub load_front : CoreState → ℕ → View → CoreState
load_front s id v = with_view s id (loaded s.journal v)

-- ---- 2: add a pin ----

-- there are fewer than eight handles and no stray
pub record MayPin (v : View) : Type 0 where
  pub room : held_count v < 8
  pub settled : stray_count v ≡ 0

-- a pin at the slot of the front that the reader has seen last, where the slot's word shows this number: it holds the
-- front where the number is the front's, and else it is a stray
abbrev pub new_entry : ℕ → ℕ → View → Entry
new_entry slots shown v =
    record { slot = front_slot slots v.seen; position = length v.seen; held = shown == front_number slots v.seen }

abbrev pub pinned : ℕ → ℕ → View → View
pinned slots shown v = record v { entries = v.entries ++ new_entry slots shown v ∷ []; pins = v.pins + 1 }

-- the word of this slot with another count
abbrev pub with_count : List SlotWord → ℕ → ℕ → List SlotWord
with_count words slot count = slice_set words slot record { number = number_at words slot; count = count }

abbrev pub add_pin : CoreState → ℕ → View → CoreState
add_pin s id v =
    let slot = front_slot s.slots v.seen in
    record (with_view s id (pinned s.slots (number_at s.words slot) v)) { words = with_count s.words slot (count_at s.words slot + 1) }

-- ---- 3: take a pin off ----

-- the reader has this entry, in this place among its entries
pub record MayTake (place : ℕ) (e : Entry) (v : View) : Type 0 where
  pub there : slice_get v.entries place ≡ Some e

abbrev pub unpinned : ℕ → View → View
unpinned place v = record v { entries = remove v.entries place }

abbrev pub take_pin : CoreState → ℕ → View → ℕ → Entry → CoreState
take_pin s id v place e = record (with_view s id (unpinned place v)) { words = with_count s.words e.slot (count_at s.words e.slot - 1) }

-- ---- 4: exchange the turn word from nobody ----

-- the reader hasn't the turn
pub record MayTakeTurn (v : View) : Type 0 where
  pub idle : v.turn ≡ false

-- it has the turn now, has seen the whole journal, and names no slot as found pinned
abbrev pub got_turn : List Write → View → View
got_turn journal v = record v { turn = true; seen = journal; pinned = []; taken = v.taken + 1 }

-- it knows that another reader has the turn, and which
abbrev pub was_refused : Option ℕ → View → View
was_refused turn v = record v { refused = v.refused + 1; holder = turn }

-- where nobody has the turn
abbrev pub take_turn : CoreState → ℕ → ℕ → View → CoreState
take_turn s id number v = record (with_view s id (got_turn s.journal v)) { turn = Some number }

-- where somebody has it
abbrev pub miss_turn : CoreState → ℕ → View → CoreState
miss_turn s id v = with_view s id (was_refused s.turn v)

abbrev pub exchange_turn : CoreState → ℕ → ℕ → View → CoreState
exchange_turn s id number v = if is_some s.turn then miss_turn s id v else take_turn s id number v

-- ---- 5: claim a slot, from the number that it keeps and no pin, to the number that comes next ----
-- As long as nothing is claimed the word shows the number that the slot keeps, so the count alone decides.

-- the reader has the turn and no claimed slot, and no listed version is in the slot
pub record MayClaim (s : CoreState) (slot : ℕ) (v : View) : Type 0 where
  pub turn : v.turn ≡ true
  pub free : v.claimed ≡ None
  pub inside : slot < s.slots
  pub unlisted : is_taken s.slots s.journal slot ≡ false

abbrev pub claiming : ℕ → View → View
claiming slot v = record v { claimed = Some slot }

-- a rising list with this number too
abbrev pub with_number : ℕ → List ℕ → List ℕ
with_number number [] = number ∷ []
with_number number (other ∷ others) =
    if nat_lt number other then number ∷ other ∷ others
    else (if number == other then other ∷ others else other ∷ with_number number others)

-- the slot is among those that were found pinned
abbrev pub found_pinned : ℕ → View → View
found_pinned slot v = record v { pinned = with_number slot v.pinned }

-- where the word counts no pin
abbrev pub claim_slot : CoreState → ℕ → View → ℕ → CoreState
claim_slot s id v slot =
    record (with_view s id (claiming slot v)) { words = slice_set s.words slot record { number = front_number s.slots s.journal + 1; count = 0 } }

-- where it counts some
abbrev pub miss_slot : CoreState → ℕ → View → ℕ → CoreState
miss_slot s id v slot = with_view s id (found_pinned slot v)

abbrev pub claim : CoreState → ℕ → View → ℕ → CoreState
claim s id v slot = if count_at s.words slot == 0 then claim_slot s id v slot else miss_slot s id v slot

-- ---- 6: store the front word ----

-- the slot that a push takes is the claimed one
abbrev pub HasClaimed : Option ℕ → Change → Type 0
HasClaimed claimed (Push n src slot) = claimed ≡ Some slot
HasClaimed claimed (Erase after gone) = Unit {0}

-- after a push nothing is claimed
abbrev pub claimed_after : Option ℕ → Change → Option ℕ
claimed_after claimed (Push n src slot) = None
claimed_after claimed (Erase after gone) = claimed

-- the reader has the turn and an allowance, the journal allows the write, it is the reader's and its next one, and a
-- push goes into the claimed slot
pub record MayStore (s : CoreState) (number : ℕ) (write : Write) (v : View) : Type 0 where
  pub turn : v.turn ≡ true
  pub allowance : 0 < v.allowance
  pub allows : allowed (state_after s.slots s.journal) write.change ≡ true
  pub by : write.by ≡ number
  pub seq : write.seq ≡ length v.own + 1
  pub claimed : HasClaimed v.claimed write.change

abbrev pub stored : Write → View → View
stored write v =
    record v { seen = v.seen ++ write ∷ []; own = v.own ++ write ∷ []; allowance = v.allowance - 1; claimed = claimed_after v.claimed write.change }

-- the front word after these writes
abbrev pub front_after : ℕ → List Write → Front
front_after slots journal = record { w = length journal; n = front_number slots journal; slot = front_slot slots journal }

abbrev pub store_front : CoreState → ℕ → View → Write → CoreState
store_front s id v write =
    record (with_view s id (stored write v)) { journal = s.journal ++ write ∷ []; front = front_after s.slots (s.journal ++ write ∷ []) }

-- ---- 7: store nobody in the turn word ----

-- the reader has the turn and no claimed slot
pub record MayGive (v : View) : Type 0 where
  pub turn : v.turn ≡ true
  pub published : v.claimed ≡ None

abbrev pub gave_turn : View → View
gave_turn v = record v { turn = false }

abbrev pub give_turn : CoreState → ℕ → View → CoreState
give_turn s id v = record (with_view s id (gave_turn v)) { turn = None }

-- ---- a split ----

-- the main has this number, and may hand out so many writes
pub record MaySplit (number writes : ℕ) (v : View) : Type 0 where
  pub main : v.role ≡ roles.Main
  pub mine : has_number number v ≡ 1
  pub room : writes ≤ v.allowance

-- the floor after a split: what the main has seen where no reader is out, so that it has all numbers
abbrev pub floor_after : ℕ → View → ℕ
floor_after readers v = if length v.numbers == readers then length v.seen else v.floor

-- what the main then knows: one number, that number's writes and a part of the allowance less
abbrev pub left_over : ℕ → ℕ → ℕ → View → View
left_over readers number writes v = record v {
  numbers = filter (λ other. not (other == number)) v.numbers;
  own = filter (λ (write : Write). not (write.by == number)) v.own;
  allowance = v.allowance - writes;
  floor = floor_after readers v;
}

-- what the new reader knows
abbrev pub split_off : ℕ → ℕ → ℕ → View → View
split_off readers number writes v = record {
  role = roles.Reader;
  numbers = number ∷ [];
  entries = [];
  seen = v.seen;
  own = writes_by number v.own;
  allowance = writes;
  floor = floor_after readers v;
  turn = false;
  claimed = None;
  pinned = [];
  loads = 0;
  pins = 0;
  taken = 0;
  refused = 0;
  holder = None;
}

abbrev pub split : CoreState → ℕ → View → ℕ → ℕ → CoreState
split s id v number writes = record s {
  views = slice_set s.views id (left_over s.readers number writes v) ++ split_off s.readers number writes v ∷ [];
  floor = floor_after s.readers v;
}

-- ---- a join ----

-- the main joins a reader that has no pin and not the turn
pub record MayJoin (v w : View) : Type 0 where
  pub main : v.role ≡ roles.Main
  pub reader : w.role ≡ roles.Reader
  pub unpinned : w.entries ≡ []
  pub turn : w.turn ≡ false

-- what the main then knows: the number, the own writes and the allowance too, and the longer of the two seen journals
abbrev pub taken_in : View → View → View
taken_in v w = record v {
  numbers = v.numbers ++ w.numbers;
  seen = if nat_lt (length v.seen) (length w.seen) then w.seen else v.seen;
  own = v.own ++ w.own;
  allowance = v.allowance + w.allowance;
}

abbrev pub join : CoreState → ℕ → View → ℕ → View → CoreState
join s id v other w = record s { views = slice_set (slice_set s.views id (taken_in v w)) other spent }

-- ---- the opening ----

-- what the main knows at first: it has every reader number and the whole allowance
abbrev pub main_at_first : ℕ → ℕ → View
main_at_first readers room = record spent { role = roles.Main; numbers = range_with_len 0 readers; allowance = room }

-- no write is made, version 1 is in slot 0, no slot has a pin, and no reader is out
abbrev pub opening_state : ℕ → ℕ → ℕ → CoreState
opening_state slots readers room = record {
  slots = slots;
  readers = readers;
  room = room;
  front = front_after slots [];
  words = slice_set (replicate slots record { number = 0; count = 0 }) 0 record { number = 1; count = 0 };
  turn = None;
  journal = [];
  floor = 0;
  views = main_at_first readers room ∷ [];
}

-- what a reader knows that is out from the start
abbrev pub reader_at_first : ℕ → ℕ → View
reader_at_first writes number = record spent { role = roles.Reader; numbers = number ∷ []; allowance = writes }

-- the same state with all readers out, each with an allowance of so many writes, for which the journal has room
abbrev pub opening_with_readers : ℕ → ℕ → ℕ → CoreState
opening_with_readers slots readers writes =
    record (opening_state slots readers (readers * writes)) { views = record spent { role = roles.Main } ∷ map (reader_at_first writes) (range_with_len 0 readers) }
