-- What of a state of the shared list is told when a schedule is over.
use Rattle.std.specs.Prelude.{ℕ, suc, Option, Some, None, length, map, drop, slice_index_or}
use Rattle.pin_core.specs.declared.view.View.{View}
use Rattle.pin_core.specs.Core.{CoreState, spent}
use Rattle.pin_schedule.specs.declared.core_reader.CoreReader.{CoreReader}
use Rattle.pin_schedule.specs.declared.answer.Core.{Core}

-- where the seat of this reader stands: all readers are out from the start, behind the main
abbrev pub seat_of : ℕ → ℕ
seat_of reader = suc reader

-- what the reader knows
abbrev pub view_of : CoreState → ℕ → View
view_of s reader = slice_index_or s.views (seat_of reader) spent

-- what is told of a reader: of the journal that it has seen how many writes that is, and its own writes not at all
abbrev pub reader_of : View → CoreReader
reader_of v = record {
  seen = length v.seen;
  loads = v.loads;
  pins = v.pins;
  taken = v.taken;
  refused = v.refused;
  allowance = v.allowance;
  pinned = v.pinned;
  entries = v.entries;
}

-- the slot that the holder of the turn has claimed, if there is one
abbrev pub claimed_by : CoreState → Option ℕ → Option ℕ
claimed_by s None = None
claimed_by s (Some holder) = (view_of s holder).claimed

-- what is told of a state
abbrev pub core_of : CoreState → Core
core_of s = record {
  journal = s.journal;
  words = s.words;
  turn = s.turn;
  claimed = claimed_by s s.turn;
  readers = map reader_of (drop 1 s.views);
}
