-- The open holds of a lane, by the places where they stand.
use Rattle.std.specs.Prelude.{◌≡◌, ℕ, Bool, false, List, [], ◌∷◌, Option, Some, None, slice_get}
use Rattle.tz_specs.specs.Value.{is_exactly}
use Rattle.tz_lane.specs.declared.lane_hold.LaneHold.{LaneHold}

-- the holds that stand at these places, in order
abbrev pub holds_at : List (Option LaneHold) → List LaneHold
holds_at [] = []
holds_at (None ∷ places) = holds_at places
holds_at (Some hold ∷ places) = hold ∷ holds_at places

-- a hold of that name stands here
abbrev pub is_named : List ℕ → Option LaneHold → Bool
is_named name None = false
is_named name (Some hold) = is_exactly hold.name name

-- a hold of that name stands at this of the places
pub record StandsAt (name : List ℕ) (places : List (Option LaneHold)) (at : ℕ) : Type 0 where
  pub hold : LaneHold
  pub there : slice_get places at ≡ Some (Some hold)
  pub named : hold.name ≡ name
