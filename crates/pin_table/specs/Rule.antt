-- The rule of the shared table, which holds between any two of its steps: its words, its seats and what stands at home
-- are those of a state of the list that the list's own steps reach.
use Rattle.std.specs.Prelude.{◌≡◌, ℕ, ◌<◌, List, map, length, slice_index}
use Rattle.atomic_table.specs.Table.{State}
use Rattle.pin_core.specs.Core.{CoreState, number_at, count_at}
use Rattle.pin_core.specs.Step.{opening_state}
use Rattle.pin_core.specs.Run.{Reaches}
use Rattle.pin_core.specs.Packing.{packed_slot, packed_front, packed_turn}
use Rattle.pin_table.specs.declared.layout.TheConstants.{FRONT_WORD, TURN_WORD}
use Rattle.pin_table.specs.declared.cell.Cell.{Cell}
use Rattle.pin_table.specs.declared.sitting.Plan.{Plan}
use Rattle.pin_table.specs.declared.sitting.Sitting.{Sitting}
use Rattle.pin_table.specs.Layout.{slot_word, word_count}
use Rattle.pin_table.specs.Seat.{view_of, HasSizes}
use Rattle.pin_table.specs.Places.{StandsAtHome}

-- the words of the table show this state; the words between them show nothing
pub record Shows (words : List ℕ) (s : CoreState) : Type 0 where
  pub wide : length words ≡ word_count s.slots
  pub front : slice_index words FRONT_WORD ≡ packed_front s.front
  pub turn : slice_index words TURN_WORD ≡ packed_turn s.turn
  pub slots : (slot : ℕ) → slot < s.slots → slice_index words (slot_word slot) ≡ packed_slot record { number = number_at s.words slot; count = count_at s.words slot }

module _ {P H : Type 0} (home : P → H) (source : P → ℕ) (name_of : H → ℕ → List ℕ) where
  -- Each state that steps reach is lawful, as pin_core proves.
  pub record KeepsList (plan : Plan P) (s : State (Cell P H) (Sitting P)) : Type 0 where
    pub core : CoreState
    pub sizes : HasSizes plan
    pub reached : Reaches (opening_state plan.slots plan.readers plan.room) core
    pub words : Shows s.words core
    pub views : core.views ≡ map view_of s.views
    pub homes : StandsAtHome home source name_of plan s.homes core
