-- A time of day by the parts round its colons, from the last part on.
use Rattle.std.specs.Prelude.{ℕ, ◌+◌, ◌*◌, List, [], ◌∷◌, Option, Some, None}
use Rattle.tz_specs.specs.Choice.{◌>>=◌}
use Rattle.tz_specs.specs.LeapLine.{two_digits_of}

-- the seconds, which nothing follows
abbrev pub last_second_of : List (List ℕ) → Option ℕ
last_second_of [] = None
last_second_of (second ∷ []) = two_digits_of 59 second
last_second_of (second ∷ other ∷ parts) = None

-- the seconds of minutes and of what follows them
abbrev pub minutes_of : List (List ℕ) → Option ℕ
minutes_of [] = None
minutes_of (minutes ∷ parts) = do
  second ← last_second_of parts
  minute ← two_digits_of 59 minutes
  Some (60 * minute + second)
