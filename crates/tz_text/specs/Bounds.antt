-- A weekday and the day that bounds it, on either side of a mark.
use Rattle.std.specs.Prelude.{ℕ, List, [], ◌∷◌, Option, Some, None}
use Rattle.tz_types.specs.declared.calendar.Weekday.{Weekday}
use Rattle.tz_specs.specs.Choice.{◌>>=◌}
use Rattle.tz_specs.specs.Day.{weekday_of, bound_of}

-- the day, which nothing follows
abbrev pub last_bound_of : List (List ℕ) → Option ℕ
last_bound_of [] = None
last_bound_of (bound ∷ []) = bound_of bound
last_bound_of (bound ∷ other ∷ parts) = None

abbrev pub bounded_of : List (List ℕ) → Option (Weekday × ℕ)
bounded_of [] = None
bounded_of (name ∷ []) = None
bounded_of (name ∷ bound ∷ parts) = do
  weekday ← weekday_of name
  day ← last_bound_of (bound ∷ parts)
  Some (weekday, day)
