-- Which holds are open. Holds belong to their lane and round.
use Rattle.std.specs.Prelude.{ℕ, ◌==◌, nat_le, Bool, not, ◌&&◌, List, [], ◌∷◌, ◌++◌, count_by, Option, Some, None}
use Rattle.std.specs.List.{filter, list_any}
use Rattle.tz_specs.specs.Value.{is_exactly}
use Rattle.tz_script.specs.declared.limit.TheConstants.{MOST_HOLDS}
use Rattle.tz_script.specs.declared.holds.OpenHold.{OpenHold}
use Rattle.tz_script.specs.declared.operation.Op.{Op}
use Rattle.tz_script.specs.declared.operation.Op.TheVariants as ops

-- it is the hold of that lane by that name
abbrev pub is_hold : ℕ → List ℕ → OpenHold → Bool
is_hold lane name hold = (hold.lane == lane) && is_exactly hold.name name

-- the lane has a hold of that name open
abbrev pub is_open : ℕ → List ℕ → List OpenHold → Bool
is_open lane name holds = list_any (λ hold. is_hold lane name hold) holds

-- the lane has seven holds open
abbrev pub is_full : ℕ → List OpenHold → Bool
is_full lane holds = nat_le MOST_HOLDS (count_by (λ hold. hold.lane == lane) holds)

-- the holds but the one of that lane by that name
abbrev pub without_hold : ℕ → List ℕ → List OpenHold → List OpenHold
without_hold lane name holds = filter (λ hold. not (is_hold lane name hold)) holds

-- the line of the hold that has been open longest
abbrev pub longest_open_line : List OpenHold → Option ℕ
longest_open_line [] = None
longest_open_line (hold ∷ holds) = Some hold.line

-- the holds that are open after an operation at a line
abbrev pub holds_after : ℕ → ℕ → Op → List OpenHold → List OpenHold
holds_after number lane (ops.Hold name) holds = holds ++ record { lane = lane; name = name; line = number } ∷ []
holds_after number lane (ops.Drop name) holds = without_hold lane name holds
holds_after number lane _ holds = holds
