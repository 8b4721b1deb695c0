-- The seconds of a civil year, counted from its first midnight.
use Rattle.std.specs.Prelude.{◌≡◌, ℕ, ◌*◌, ◌<◌, ℤ, pos, ◌+ℤ◌}
use Rattle.jiff_core.specs.Calendar.{days_in_year}
use Rattle.tz_types.specs.Calendar.{year_start}

-- the second is one of those that the days of the year have, 86,400 each
abbrev pub IsSecondOfYear : ℤ → ℤ → Type 0
IsSecondOfYear t year =
    (second : ℕ) × (second < 86_400 * days_in_year year) × (t ≡ (year_start year +ℤ pos second))
