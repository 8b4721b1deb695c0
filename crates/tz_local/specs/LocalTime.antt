-- Which local times are told.
use Rattle.std.specs.Prelude.{ℤ, pos, ◌+ℤ◌, ◌-ℤ◌, ◌≤ℤ◌, ◌<ℤ◌}
use Rattle.tz_types.specs.declared.limit.TheConstants.{LONGEST_OFFSET}
use Rattle.tz_specs.specs.Expansion.{first_instant, end_of_time}

-- No offset is above two days: so far from both ends of time each local time lies in a range, or in a gap between two.
abbrev pub IsLocalTime : ℤ → Type 0
IsLocalTime l = ((first_instant +ℤ pos LONGEST_OFFSET) ≤ℤ l) × (l <ℤ (end_of_time -ℤ pos LONGEST_OFFSET))
