-- What stays of a lane's reader where memory runs out.
use Rattle.std.proofs.Common.{◌≡◌, ℕ, ◌+◌, List, ◌++◌, length, length-append, append_assoc, take, refl, ap, ◌∙◌, subst, sym, arith}
use Rattle.std.specs.Prelude.{Result, Ok, Err, OnErr}
use Rattle.std.proofs.Math.Seq.{take-length}
use Rattle.tz_types.specs.declared.memory.NoMemory.{NoMemory}
use Rattle.pin_core.specs.declared.view.View.{View}
use Rattle.pin_table.specs.Kept.{KeepsPins, KeepsWrites}
use Rattle.pin_table.specs.declared.sitting.Plan.{Plan}
use Rattle.tz_version.specs.Release.{Release}
use Rattle.tz_version.specs.declared.sources.Sources.{Sources}
use Rattle.tz_batch.specs.Batch.{Answered}
use Rattle.tz_lane.specs.Lane.{changes_told_by, writes_from, StopsLane}
use Rattle.pin_book.specs.declared.write.Write.{Write}
use Rattle.tz_lane.specs.Meeting.{KeepsNumbers, Meets, MeetsQuietly}
use Rattle.tz_lane.specs.declared.lane_hold.LaneHold.{LaneHold}
use Rattle.tz_lane.proofs.Fronts.{seen_stays}
use Rattle.tz_lane.proofs.Running.{HasRun, writes_length, no_shorter}

-- a lane that stops after what it has run so far
pub stops_here : (plan : Plan Release) (sources : Sources) (number lane round : ℕ) (v : View) (those : List Answered) (now : View) (holds : List LaneHold) → HasRun plan sources number lane round v those now holds → StopsLane v now
stops_here plan sources number lane round v those now holds run = record {
  grows = run.grows;
  made = writes_from number (length v.own) (changes_told_by those);
  own = run.own;
  allowance = (let long = writes_length number (length v.own) (changes_told_by those) in let left = run.allowance in omega (arith, long, left));
  keeps = run.keeps;
}

-- and a quiet call later
pub stops_then : (v now next : View) → StopsLane v now → MeetsQuietly now next → StopsLane v next
stops_then v now next stops quiet = record {
  grows = seen_stays now.seen next.seen (length v.seen) quiet.grows (no_shorter v.seen now.seen stops.grows) ∙ stops.grows;
  made = stops.made;
  own = quiet.own ∙ stops.own;
  allowance = (let left = quiet.allowance in let old = stops.allowance in omega (arith, left, old));
  keeps = record { role = quiet.keeps.role ∙ stops.keeps.role; numbers = quiet.keeps.numbers ∙ stops.keeps.numbers; floor = quiet.keeps.floor ∙ stops.keeps.floor };
}

-- and an operation that was answered
pub stops_made : (slots : ℕ) (v now next : View) (made : List Write) (w : ℕ) → StopsLane v now → Meets slots now made next w → StopsLane v next
stops_made slots v now next made w stops meets = record {
  grows = seen_stays now.seen next.seen (length v.seen) meets.grows (no_shorter v.seen now.seen stops.grows) ∙ stops.grows;
  made = stops.made ++ made;
  own = meets.own ∙ ap (λ (xs : List Write). xs ++ made) stops.own ∙ append_assoc v.own stops.made made;
  allowance = (let left = meets.allowance in let old = stops.allowance in let long = length-append stops.made made in omega (arith, left, old, long));
  keeps = record { role = meets.keeps.role ∙ stops.keeps.role; numbers = meets.keeps.numbers ∙ stops.keeps.numbers; floor = meets.keeps.floor ∙ stops.keeps.floor };
}

pub stops_if : {A E : Type 0} (made : Result A E) (v now : View) → StopsLane v now → OnErr made (StopsLane v now)
stops_if (Ok done) v now stops = tt
stops_if (Err none) v now stops = stops
