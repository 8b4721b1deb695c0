-- The holds of a lane: handles of its reader, by their names.
use Rattle.std.specs.Prelude.{◌≡◌, ℕ, List, ◌∷◌, map, Contains, IsPermutation}
use Rattle.pin_core.specs.declared.view.View.{View}
use Rattle.pin_book.specs.Replay.{Edition}
use Rattle.pin_table.specs.Handles.{pin_of, MadeBy}
use Rattle.pin_table.specs.declared.sitting.Plan.{Plan}
use Rattle.tz_script.specs.declared.operation.Op.{Op}
use Rattle.tz_script.specs.declared.operation.Op.TheVariants as ops
use Rattle.tz_version.specs.Release.{Release}
use Rattle.tz_batch.specs.Round.{Round, newest_at}
use Rattle.tz_list.specs.Reload.{release_home, release_source}
use Rattle.tz_lane.specs.declared.lane_hold.LaneHold.{LaneHold}

-- the names of these holds
abbrev pub names_of : List LaneHold → List (List ℕ)
names_of holds = map (λ (hold : LaneHold). hold.name) holds

-- Each handle of the reader stands in one of these holds, and each hold's handle is the reader's.
pub record AreHeld (plan : Plan Release) (v : View) (holds : List LaneHold) : Type 0 where
  pub pins : IsPermutation (map (λ (hold : LaneHold). pin_of hold.handle) holds) v.entries
  pub made : (hold : LaneHold) → Contains holds hold → MadeBy release_home release_source plan v hold.handle

-- one of these holds has that name, and is on this version
abbrev pub LaneHoldsAs : Round → List LaneHold → List ℕ → Edition → Type 0
LaneHoldsAs round holds name edition =
    (hold : LaneHold) × Contains holds hold × (hold.name ≡ name) × (edition ≡ newest_at round hold.handle.position)

-- one of these holds is on a version in that slot
abbrev pub HoldsSlot : Round → List LaneHold → ℕ → Type 0
HoldsSlot round holds slot =
    (hold : LaneHold) × Contains holds hold × ((newest_at round hold.handle.position).slot ≡ slot)

-- a hold that an operation at a line began, by this name and at this position
pub record IsBegun (line : ℕ) (name : List ℕ) (w : ℕ) (hold : LaneHold) : Type 0 where
  pub line_is : hold.line ≡ line
  pub name_is : hold.name ≡ name
  pub position : hold.handle.position ≡ w

-- The holds after an operation at a line that was answered at this position: one more, one less, or the same.
abbrev pub HoldsAfter : ℕ → Op → ℕ → List LaneHold → List LaneHold → Type 0
HoldsAfter line (ops.Hold name) w holds later =
    (hold : LaneHold) × IsBegun line name w hold × IsPermutation later (hold ∷ holds)
HoldsAfter line (ops.Drop name) w holds later =
    (hold : LaneHold) × (hold.name ≡ name) × IsPermutation holds (hold ∷ later)
HoldsAfter line op w holds later = later ≡ holds
