-- The holds that a lane lets go one by one.
use Rattle.std.proofs.Common.{◌≡◌, ℕ, ◌<◌, List, [], ◌∷◌, length, take, append-nil, refl, subst, ◌∙◌, arith, IsPermutation}
use Rattle.std.proofs.lemmas.List.Sorted.{length_permutation}
use Rattle.pin_core.specs.declared.entry.Entry.{Entry}
use Rattle.pin_core.specs.declared.view.View.{View}
use Rattle.pin_table.specs.declared.sitting.Plan.{Plan}
use Rattle.pin_table.proofs.PlaceLemmas.{take_seen, no_shorter}
use Rattle.tz_version.specs.Release.{Release}
use Rattle.tz_lane.specs.declared.lane_hold.LaneHold.{LaneHold}
use Rattle.tz_lane.specs.Holding.{AreHeld}
use Rattle.tz_lane.specs.Meeting.{KeepsNumbers, Meets}
use Rattle.tz_lane.proofs.Meetings.{keeps_twice}

-- the reader, which knew v, has made no write since, and knows v' now
pub record MakesNone (v v' : View) : Type 0 where
  pub grows : take (length v.seen) v'.seen ≡ v.seen
  pub own : v'.own ≡ v.own
  pub allowance : v'.allowance ≡ v.allowance
  pub keeps : KeepsNumbers v v'

-- it has made none once it has met the list without a write
pub none_more : (slots : ℕ) (v middle later : View) (w : ℕ) → MakesNone v middle → Meets slots middle [] later w → MakesNone v later
none_more slots v middle later w first second = record {
  grows = take_seen (length v.seen) middle.seen later.seen (no_shorter v.seen middle.seen first.grows) second.grows ∙ first.grows;
  own = second.own ∙ append-nil middle.own ∙ first.own;
  allowance = omega (arith, first.allowance, second.allowance);
  keeps = keeps_twice v middle later first.keeps second.keeps;
}

-- a reader whose handles stand for no holds has no pin
pub free_at_last : (plan : Plan Release) (v : View) (holds : List LaneHold) → AreHeld plan v holds → holds ≡ [] → v.entries ≡ []
free_at_last plan v holds held none =
    none_of v.entries (length_permutation [] v.entries (subst (λ (those : List LaneHold). AreHeld plan v those) none held).pins)
  where
    none_of : (pins : List Entry) → length pins ≡ 0 → pins ≡ []
    none_of [] none = refl
    none_of (pin ∷ pins) none = absurd (omega (arith, none))

-- there are fewer holds once one is taken out
pub one_fewer : (holds later : List LaneHold) (hold : LaneHold) → IsPermutation holds (hold ∷ later) → length later < length holds
one_fewer holds later hold s = let long = length_permutation holds (hold ∷ later) s in omega (arith, long)
