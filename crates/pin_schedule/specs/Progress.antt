-- What the steps of a schedule have made so far, and what is kept at hand so that the next step is quick.
use Rattle.std.specs.Prelude.{◌≡◌, ℕ, ◌+◌, ◌*◌, ◌^◌, ◌≤◌, ◌<◌, ◌-◌, ◌==◌, nat_lt, filter, not, ◌&&◌, Bool, true, false, is_some, is_none, Option, Some, None, ◌++◌, List, [], ◌∷◌, length, map, drop, slice_index_or, slice_set}
use Rattle.std.specs.List.{list_any}
use Rattle.pin_core.specs.declared.entry.SlotWord.{SlotWord}
use Rattle.pin_book.specs.declared.write.Write.{Write}
use Rattle.pin_core.specs.declared.view.View.{View}
use Rattle.pin_book.specs.declared.write.Change.{Change}
use Rattle.pin_book.specs.Replay.{Edition, greatest_number, state_after, front_number, front_slot}
use Rattle.pin_core.specs.Core.{CoreState, spent}
use Rattle.pin_core.specs.Lawful.{Lawful}
use Rattle.pin_core.specs.Step.{HasReader}
use Rattle.pin_schedule.specs.declared.core_reader.CoreReader.{CoreReader}
use Rattle.pin_schedule.specs.declared.answer.Core.{Core}
use Rattle.pin_schedule.specs.declared.event.Event.{Event}
use Rattle.pin_schedule.specs.declared.event.Kind.{Kind}
use Rattle.pin_schedule.specs.declared.event.Kind.TheVariants.{LoadFront, AddPin, TakePin, TakeTurn, Claim, StorePush, StoreErase, StoreTurn}
use Rattle.pin_schedule.specs.declared.row.Row.{Row}
use Rattle.pin_schedule.specs.declared.limits.TheConstants.{MOST_EVENTS}
use Rattle.pin_book.specs.declared.limits.TheConstants.{MOST_SLOTS, MOST_WRITES, READER_NUMBERS}
use Rattle.pin_schedule.specs.Answer.{seat_of, view_of, reader_of, core_of}
use Rattle.pin_schedule.specs.Pin.{taken_place, has_place}
use Rattle.pin_schedule.specs.Schedule.{IsAllowed}

-- how many writes each reader may make in all; the core; the front that each reader has seen last; and the versions that
-- are listed, newest first
pub record Progress : Type 0 where
  pub room : ℕ
  pub core : Core
  pub fronts : List Row
  pub listed : List Row

-- what is told of this reader
abbrev pub reader_at : Progress → ℕ → CoreReader
reader_at p reader = slice_index_or p.core.readers reader (reader_of spent)

-- the newest version that is listed
abbrev pub newest : Progress → Row
newest p = slice_index_or p.listed 0 record { n = 0; slot = 0 }

-- the word of this slot
abbrev pub word_at : Progress → ℕ → SlotWord
word_at p slot = slice_index_or p.core.words slot record { number = 0; count = 0 }

-- the same, but that something else is told of this reader
abbrev pub with_reader : Progress → ℕ → CoreReader → Progress
with_reader p reader told = record p { core = record p.core { readers = slice_set p.core.readers reader told } }

-- the front that this reader has seen last
abbrev pub front_at : Progress → ℕ → Row
front_at p reader = slice_index_or p.fronts reader record { n = 0; slot = 0 }

-- what is told of a reader after it has added a pin at this front, whose slot had this word
abbrev pub with_pin : Row → SlotWord → CoreReader → CoreReader
with_pin front word r = record r {
  pins = r.pins + 1;
  entries = r.entries ++ record { slot = front.slot; position = r.seen; held = word.number == front.n } ∷ [];
}

-- the word with another count
abbrev pub counting : SlotWord → ℕ → SlotWord
counting word count = record { number = word.number; count = count }

-- the same, but that this slot has another word
abbrev pub with_word : Progress → ℕ → SlotWord → Progress
with_word p slot word = record p { core = record p.core { words = slice_set p.core.words slot word } }

-- the same, but that another reader, or none, has the turn
abbrev pub with_turn : Progress → Option ℕ → Progress
with_turn p turn = record p { core = record p.core { turn = turn } }

-- the same, but that another slot, or none, is claimed
abbrev pub with_claimed : Progress → Option ℕ → Progress
with_claimed p claimed = record p { core = record p.core { claimed = claimed } }

-- the write that the reader makes next, with this change
abbrev pub written : Progress → ℕ → ℕ → Change → Write
written p reader number change =
    record { by = number; seq = p.room - (reader_at p reader).allowance + 1; change = change }

-- the same, but that the reader has made this write, after which these are listed
abbrev pub with_write : Progress → ℕ → Write → List Row → Progress
with_write p reader write listed =
    let r = reader_at p reader in
    record (with_reader p reader (record r { seen = r.seen + 1; allowance = r.allowance - 1 })) { core = record (with_reader p reader (record r { seen = r.seen + 1; allowance = r.allowance - 1 })).core { journal = p.core.journal ++ write ∷ [] }; fronts = slice_set p.fronts reader (slice_index_or listed 0 record { n = 0; slot = 0 }); listed = listed }

-- the greatest_number number of these versions that is below this one, or 0
abbrev pub greatest_under : ℕ → List Row → ℕ
greatest_under number listed = greatest_number (filter (λ other. nat_lt other number) (map (λ (row : Row). row.n) listed))

-- a version in this slot is among these, or one of this number
abbrev pub is_placed : ℕ → List Row → Bool
is_placed slot listed = list_any (λ (row : Row). row.slot == slot) listed

abbrev pub is_numbered : ℕ → List Row → Bool
is_numbered number listed = list_any (λ (row : Row). row.n == number) listed

-- these versions but that of this number
abbrev pub without : ℕ → List Row → List Row
without gone listed = filter (λ (row : Row). not (row.n == gone)) listed

-- the reader of this number has the turn
abbrev pub is_turn_of : ℕ → Option ℕ → Bool
is_turn_of number None = false
is_turn_of number (Some holder) = holder == number

-- the reader may make a step of this kind, as far as what is at hand tells
abbrev pub passes : Progress → ℕ → Kind → Bool
passes p reader LoadFront = true
passes p reader AddPin = has_place (reader_at p reader).entries
passes p reader (TakePin slot) = nat_lt slot (length p.core.words) && is_some (taken_place slot (reader_at p reader).entries)
passes p reader TakeTurn = not (is_turn_of reader p.core.turn)
passes p reader (Claim slot) =
    is_turn_of reader p.core.turn && is_none p.core.claimed && (nat_lt slot (length p.core.words) && not (is_placed slot p.listed))
passes p reader (StorePush src) =
    is_turn_of reader p.core.turn && is_some p.core.claimed && nat_lt 0 (reader_at p reader).allowance
passes p reader (StoreErase after) =
    is_turn_of reader p.core.turn && is_none p.core.claimed && nat_lt 0 (reader_at p reader).allowance
    && (is_numbered after p.listed && nat_lt 0 (greatest_under after p.listed))
passes p reader StoreTurn = is_turn_of reader p.core.turn && is_none p.core.claimed

-- the reader is there, something is listed, and no number that a step raises is near the end of its type
pub record HasReach (p : Progress) (reader : ℕ) : Type 0 where
  pub inside : reader < length p.core.readers
  pub front : reader < length p.fronts
  pub listed : 0 < length p.listed
  pub journal : length p.core.journal + 1 < 2 ^ 32
  pub newest : (newest p).n + 1 < 2 ^ 32
  pub seen : (reader_at p reader).seen + 1 < 2 ^ 32
  pub loads : (reader_at p reader).loads + 1 < 2 ^ 32
  pub pins : (reader_at p reader).pins + 1 < 2 ^ 32
  pub taken : (reader_at p reader).taken + 1 < 2 ^ 32
  pub refused : (reader_at p reader).refused + 1 < 2 ^ 32

-- ---- how it stands to a state ----

-- the row of a version, as it is kept at hand
abbrev pub listed_row : Edition → Row
listed_row e = record { n = e.n; slot = e.slot }

-- the front that the reader has seen last
abbrev pub seen_front : ℕ → View → Row
seen_front slots v = record { n = front_number slots v.seen; slot = front_slot slots v.seen }

-- what is kept at hand of a state, where each reader may make so many writes in all
abbrev pub progress_of : ℕ → CoreState → Progress
progress_of room s = record {
  room = room;
  core = core_of s;
  fronts = map (seen_front s.slots) (drop 1 s.views);
  listed = map listed_row (state_after s.slots s.journal).listed;
}

-- what the reader's tallies and writes amount to, after so many events
pub record Amounts (made room : ℕ) (v : View) : Type 0 where
  pub loads : v.loads ≤ made
  pub pins : v.pins ≤ made
  pub taken : v.taken ≤ made
  pub refused : v.refused ≤ made
  pub writes : length v.own + v.allowance ≡ room

-- a state that so many events may leave: it is lawful, each reader is out, and no size is beyond its limit
pub record IsPlayed (made room : ℕ) (s : CoreState) : Type 0 where
  pub lawful : Lawful s
  pub seats : length s.views ≡ s.readers + 1
  pub out : (reader : ℕ) → reader < s.readers → HasReader s (seat_of reader) reader (view_of s reader)
  pub amounts : (reader : ℕ) → reader < s.readers → Amounts made room (view_of s reader)
  pub slots : s.slots ≤ MOST_SLOTS
  pub readers : s.readers ≤ READER_NUMBERS
  pub writes : s.room ≤ READER_NUMBERS * MOST_WRITES

-- so many events left this state, and this is kept at hand of it
pub record Stands (made room : ℕ) (s : CoreState) (p : Progress) : Type 0 where
  pub played : IsPlayed made room s
  pub told : p ≡ progress_of room s

-- few enough events left some state of which this is kept at hand, and the event is allowed there
pub record CanMake (p : Progress) (event : Event) : Type 0 where
  pub made : ℕ
  pub room : ℕ
  pub state : CoreState
  pub few : made < MOST_EVENTS
  pub stands : Stands made room state p
  pub allowed : IsAllowed state event
