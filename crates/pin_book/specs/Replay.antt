-- The list of versions that a journal of writes replays to, after C++20 [time.zone.db.list]: the newest version
-- stands at the front, and `erase_after` takes the one behind a given one off. Numbers and slots are this
-- project's own.
use Rattle.std.specs.Prelude.{slice_index, ℕ, ◌+◌, max, Bool, true, not, ◌&&◌, ◌==◌, nat_lt, List, [], ◌∷◌, length, map, replicate, slice_set, fold, filter}
use Rattle.std.specs.List.{list_any}
use Rattle.pin_book.specs.declared.write.Change.{Change}
use Rattle.pin_book.specs.declared.write.Change.TheVariants.{Push, Erase}
use Rattle.pin_book.specs.declared.write.Write.{Write}

-- a version as the journal knows it: its number, the source that it was made of, and the slot that it was put in
pub record Edition : Type 0 where
  pub n : ℕ
  pub src : ℕ
  pub slot : ℕ

-- the versions that are listed, newest first, and for each slot of the list the number that it keeps, or 0
pub record ListState : Type 0 where
  pub listed : List Edition
  pub kept : List ℕ

-- before any write: version 1, of source 0, is listed and in slot 0, and no other slot keeps anything
abbrev pub opening : ℕ → ListState
opening slots = record { listed = record { n = 1; src = 0; slot = 0 } ∷ []; kept = slice_set (replicate slots 0) 0 1 }

-- the front: the newest that is listed (something always is)
abbrev pub front_of : List Edition → Edition
front_of [] = record { n = 0; src = 0; slot = 0 }
front_of (edition ∷ older) = edition

-- a version of this number is listed
abbrev pub is_listed : ℕ → List Edition → Bool
is_listed number listed = list_any (λ edition. edition.n == number) listed

-- a version in this slot is listed
abbrev pub is_slot_listed : ℕ → List Edition → Bool
is_slot_listed slot listed = list_any (λ edition. edition.slot == slot) listed

-- the greatest_number of these numbers, or 0 where there is none
abbrev pub greatest_number : List ℕ → ℕ
greatest_number [] = 0
greatest_number (number ∷ numbers) = max number (greatest_number numbers)

-- the greatest_number listed number below this one, or 0 where there is none
abbrev pub greatest_below : ℕ → List Edition → ℕ
greatest_below number listed = greatest_number (filter (λ other. nat_lt other number) (map (λ edition. edition.n) listed))

-- a push is allowed with the number after the front's, into a slot of the list that isn't listed; an erase is
-- allowed after a listed version, of the greatest_number listed number below it
abbrev pub allowed : ListState → Change → Bool
allowed state (Push n src slot) =
    (n == (front_of state.listed).n + 1) && nat_lt slot (length state.kept) && not (is_slot_listed slot state.listed)
allowed state (Erase after gone) =
    is_listed after state.listed && nat_lt 0 gone && (gone == greatest_below after state.listed)

-- a push lists its version first, and its slot then keeps that number; an erase takes a version off the list, and
-- leaves what slots keep
abbrev pub after_change : ListState → Change → ListState
after_change state (Push n src slot) =
    record { listed = record { n = n; src = src; slot = slot } ∷ state.listed; kept = slice_set state.kept slot n }
after_change state (Erase after gone) =
    record { listed = filter (λ edition. not (edition.n == gone)) state.listed; kept = state.kept }

abbrev pub after_write : ListState → Write → ListState
after_write state write = after_change state write.change

-- the list after all writes of the journal, in a list of so many slots
abbrev pub state_after : ℕ → List Write → ListState
state_after slots journal = fold after_write (opening slots) journal

-- each of these writes is allowed in the state after those before it
abbrev pub replays_from : ListState → List Write → Bool
replays_from state [] = true
replays_from state (write ∷ later) = allowed state write.change && replays_from (after_write state write) later

-- the journal replays from the opening
abbrev pub replays : ℕ → List Write → Bool
replays slots journal = replays_from (opening slots) journal

-- the number of the front after these writes
unfoldable pub front_number : ℕ → List Write → ℕ
front_number slots journal = (front_of (state_after slots journal).listed).n

-- the slot of the front after these writes
unfoldable pub front_slot : ℕ → List Write → ℕ
front_slot slots journal = (front_of (state_after slots journal).listed).slot

-- the number that the slot keeps after these writes, or 0
unfoldable pub kept_number : ℕ → List Write → ℕ → ℕ
kept_number slots journal slot = slice_index (state_after slots journal).kept slot

-- a version in this slot is listed after these writes
unfoldable pub is_taken : ℕ → List Write → ℕ → Bool
is_taken slots journal slot = is_slot_listed slot (state_after slots journal).listed
