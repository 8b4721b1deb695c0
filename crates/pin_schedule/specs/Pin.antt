-- Which of a reader's pins at a slot is taken off.
use Rattle.std.specs.Prelude.{ℕ, Bool, not, ◌&&◌, ◌||◌, ◌==◌, nat_le, nat_lt, length, Option, List, position}
use Rattle.std.specs.List.{list_all}
use Rattle.std.specs.Option.{option_or}
use Rattle.pin_core.specs.declared.entry.Entry.{Entry}
use Rattle.pin_schedule.specs.declared.limits.TheConstants.{MOST_HANDLES}

-- the pin is a stray at the slot
abbrev pub is_stray_at : ℕ → Entry → Bool
is_stray_at slot e = (e.slot == slot) && not e.held

-- the pin is held at the slot
abbrev pub is_held_at : ℕ → Entry → Bool
is_held_at slot e = (e.slot == slot) && e.held

-- the pin is held at the slot, and none that is held there has a lesser position
abbrev pub is_oldest_at : ℕ → List Entry → Entry → Bool
is_oldest_at slot entries e =
    is_held_at slot e && list_all (λ other. not (is_held_at slot other) || nat_le e.position other.position) entries

-- the place of the stray at the slot, or where there is none, that of the oldest pin that is held there
abbrev pub taken_place : ℕ → List Entry → Option ℕ
taken_place slot entries = option_or (position (is_stray_at slot) entries) (position (is_oldest_at slot entries) entries)

-- there are fewer than eight pins, and each is held, so that one more may be added
abbrev pub has_place : List Entry → Bool
has_place entries = nat_lt (length entries) MOST_HANDLES && list_all (λ (e : Entry). e.held) entries
