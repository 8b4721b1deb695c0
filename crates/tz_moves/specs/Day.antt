-- How many seconds a civil day has in a zone.
use Rattle.std.specs.Prelude.{Bool, false, ◌&&◌, ℕ, zero, suc, List, [], ◌∷◌, int_le, int_lt, ℤ, pos, ◌+ℤ◌, ◌-ℤ◌, ◌*ℤ◌, ◌≤ℤ◌, Option, Some, None}
use Rattle.std.specs.Int.{int_max, int_min}
use Rattle.tz_types.specs.declared.limit.TheConstants.{LONGEST_OFFSET}
use Rattle.tz_types.specs.declared.range.SysInfo.{SysInfo}
use Rattle.tz_specs.specs.Expansion.{first_instant, end_of_time, range_at}

-- the local time at which a day begins; days are counted from 1970-01-01
abbrev pub midnight : ℤ → ℤ
midnight day = day *ℤ pos 86_400

-- how many seconds of the day the clock shows in a range: as many as the day and the range on its own clock share
abbrev pub seconds_in : ℤ → SysInfo → ℤ
seconds_in day range =
    let first = int_max (range.begin +ℤ range.offset) (midnight day) in
    let last = int_min (range.end +ℤ range.offset) (midnight (day +ℤ pos 1)) in
    int_max (last -ℤ first) (pos 0)

-- the seconds of the day, in all ranges
abbrev pub day_seconds : ℤ → List SysInfo → ℤ
day_seconds day [] = pos 0
day_seconds day (range ∷ later) = seconds_in day range +ℤ day_seconds day later

-- No offset is above two days: the seconds of a day so far from both ends of time are all in time.
abbrev pub IsDay : ℤ → Type 0
IsDay day =
    ((first_instant +ℤ pos LONGEST_OFFSET) ≤ℤ midnight day) × (midnight (day +ℤ pos 1) ≤ℤ (end_of_time -ℤ pos LONGEST_OFFSET))

-- so many instants from t on, each a second after the one before
unfoldable pub seconds_from : ℤ → ℕ → List ℤ
seconds_from t zero = []
seconds_from t (suc count) = t ∷ seconds_from (t +ℤ pos 1) count

-- at the instant t the clock shows a second of the day
abbrev pub shows_day : ℤ → List SysInfo → ℤ → Bool
shows_day day ranges t = by_range (range_at ranges t)
  where
    by_range : Option SysInfo → Bool
    by_range None = false
    by_range (Some range) =
        int_le (midnight day) (t +ℤ range.offset) && int_lt (t +ℤ range.offset) (midnight (day +ℤ pos 1))
