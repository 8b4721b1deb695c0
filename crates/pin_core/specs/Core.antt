-- The shared list at one moment, as plain data: the words that threads share, the journal, and what each seat knows.
-- Nothing here is shared or atomic yet. A table whose threads change one word at a time is in such a state between
-- any two of its steps. The protocol is this project's own.
use Rattle.std.specs.Prelude.{◌≡◌, ◌≢◌, ℕ, ◌+◌, Bool, true, false, not, ◌&&◌, ◌==◌, Option, Some, None, List, [], ◌∷◌, length, slice_index, slice_index_or, slice_set}
use mathlib.Core.Option.{some}
use lib.ListN.{get_elem?}
use Rattle.pin_book.specs.declared.write.Write.{Write}
use Rattle.pin_core.specs.declared.entry.Entry.{Entry}
use Rattle.pin_core.specs.declared.entry.SlotWord.{SlotWord}
use Rattle.pin_core.specs.declared.view.View.{View}
use Rattle.pin_core.specs.declared.view.Role.{Role}
use Rattle.pin_core.specs.declared.view.Role.TheVariants as roles
use Rattle.pin_book.specs.Replay.{state_after, front_of, is_slot_listed}

-- the front word: how many writes there are, and the number and the slot of the front after them
pub record Front : Type 0 where
  pub w : ℕ
  pub n : ℕ
  pub slot : ℕ

-- A state. Three sizes never change: how many slots and readers there are, and how many writes the journal has room
-- for. The words are the front word, one word for each slot, and the turn word, which names the reader that has the
-- turn, if one has. No pin is older than the floor. Each seat has a view.
pub record CoreState : Type 0 where
  pub slots : ℕ
  pub readers : ℕ
  pub room : ℕ
  pub front : Front
  pub words : List SlotWord
  pub turn : Option ℕ
  pub journal : List Write
  pub floor : ℕ
  pub views : List View

-- ---- what the words say ----

-- the number that the word of this slot shows
abbrev pub number_at : List SlotWord → ℕ → ℕ
number_at words slot = (slice_index_or words slot record { number = 0; count = 0 }).number

-- how many pins the word of this slot counts
abbrev pub count_at : List SlotWord → ℕ → ℕ
count_at words slot = (slice_index_or words slot record { number = 0; count = 0 }).count

-- ---- sums over seats ----

abbrev pub one_if : Bool → ℕ
one_if true = 1
one_if false = 0

-- f of each, added up
abbrev pub total : {A : Type 0} → (A → ℕ) → List A → ℕ
total f [] = 0
total f (x ∷ xs) = f x + total f xs

-- how often the number stands in the list
abbrev pub times : ℕ → List ℕ → ℕ
times number numbers = total (λ other. one_if (other == number)) numbers

-- how many pins the seat has at the slot
abbrev pub pins_at : ℕ → View → ℕ
pins_at slot v = total (λ (e : Entry). one_if (e.slot == slot)) v.entries

-- how many of them are held
abbrev pub held_at : ℕ → View → ℕ
held_at slot v = total (λ (e : Entry). one_if ((e.slot == slot) && e.held)) v.entries

-- how many handles the seat has
abbrev pub held_count : View → ℕ
held_count v = total (λ (e : Entry). one_if e.held) v.entries

-- how many strays the seat has
abbrev pub stray_count : View → ℕ
stray_count v = total (λ (e : Entry). one_if (not e.held)) v.entries

-- how often the seat has this reader number, and how many numbers it has
abbrev pub has_number : ℕ → View → ℕ
has_number number v = times number v.numbers

abbrev pub number_count : View → ℕ
number_count v = length v.numbers

-- 1 where the seat has the turn
abbrev pub has_turn : View → ℕ
has_turn v = one_if v.turn

-- 1 where this is the claimed slot
abbrev pub claims : ℕ → Option ℕ → ℕ
claims slot None = 0
claims slot (Some claimed) = one_if (claimed == slot)

-- 1 where the seat has claimed the slot
abbrev pub has_claimed : ℕ → View → ℕ
has_claimed slot v = claims slot v.claimed

-- 1 for the main
abbrev pub mains : Role → ℕ
mains roles.Main = 1
mains roles.Reader = 0
mains roles.Spent = 0

-- 1 where the seat is the main's
abbrev pub is_main : View → ℕ
is_main v = mains v.role

abbrev pub allowance_of : View → ℕ
allowance_of v = v.allowance

-- ---- seats ----

-- the seat is that of the reader of this number, which is out
abbrev pub IsReader : ℕ → View → Type 0
IsReader number v = (v.role ≡ roles.Reader) × (v.numbers ≡ number ∷ [])

-- what a spent seat knows: nothing
abbrev pub spent : View
spent = record {
  role = roles.Spent;
  numbers = [];
  entries = [];
  seen = [];
  own = [];
  allowance = 0;
  floor = 0;
  turn = false;
  claimed = None;
  pinned = [];
  loads = 0;
  pins = 0;
  taken = 0;
  refused = 0;
  holder = None;
}

-- P of each seat, but for those that are spent
abbrev pub EachSeat : (View → Type 0) → List View → Type 0
EachSeat P views = (id : ℕ) (v : View) → get_elem? views id ≡ some v → v.role ≢ roles.Spent → P v

-- the same state, but that this seat knows something else
abbrev pub with_view : CoreState → ℕ → View → CoreState
with_view s id v = record s { views = slice_set s.views id v }
