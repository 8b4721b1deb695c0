-- Local times, as words name them.
use Rattle.std.specs.Prelude.{ℕ, List, ℤ, Option}
use Rattle.tz_specs.specs.Day.{or_else}
use Rattle.tz_specs.specs.Number.{signed_number_of}
use Rattle.tz_specs.specs.CivilWord.{civil_word}

-- the local time that the word names: a number of at most 15 digits, or a civil date and time of day of 19 bytes
abbrev pub local_time_of : List ℕ → Option ℤ
local_time_of word = or_else (signed_number_of 1 15 word) (civil_word word)
