-- What stands behind the hours of an amount, rounded to whole seconds.
use Rattle.std.specs.Prelude.{ℕ, ◌+◌, ◌*◌, List, [], ◌∷◌, Option, Some, None, option_map}
use Rattle.tz_specs.specs.Parts.{parts_at}
use Rattle.tz_specs.specs.Number.{number_of}
use Rattle.tz_specs.specs.Amount.{rounded, part_up_to, seconds_of}

-- the sum of two numbers, where both are there
abbrev pub added : Option ℕ → Option ℕ → Option ℕ
added None other = None
added (Some a) None = None
added (Some a) (Some b) = Some (a + b)

abbrev pub seconds_of_hours : List ℕ → Option ℕ
seconds_of_hours word = option_map (λ hours. 3600 * hours) (number_of 1 3 word)

abbrev pub seconds_of_minutes : List ℕ → Option ℕ
seconds_of_minutes word = option_map (λ minutes. 60 * minutes) (part_up_to 59 word)

-- seconds, rounded
abbrev pub rounded_seconds_of : List ℕ → Option ℕ
rounded_seconds_of word = option_map rounded (seconds_of (parts_at 0x2e word))

-- seconds, which nothing follows
abbrev pub last_seconds_of : List (List ℕ) → Option ℕ
last_seconds_of [] = None
last_seconds_of (seconds ∷ []) = rounded_seconds_of seconds
last_seconds_of (seconds ∷ other ∷ parts) = None

-- minutes, or minutes and seconds
abbrev pub after_hours_of : List (List ℕ) → Option ℕ
after_hours_of [] = None
after_hours_of (minutes ∷ []) = seconds_of_minutes minutes
after_hours_of (minutes ∷ seconds ∷ parts) = added (seconds_of_minutes minutes) (last_seconds_of (seconds ∷ parts))

-- hours; hours and minutes; hours, minutes and seconds
abbrev pub clock_seconds_of : List (List ℕ) → Option ℕ
clock_seconds_of [] = None
clock_seconds_of (hours ∷ []) = seconds_of_hours hours
clock_seconds_of (hours ∷ minutes ∷ parts) = added (seconds_of_hours hours) (after_hours_of (minutes ∷ parts))
