-- A civil date and time of day as one word, `YYYY-MM-DDTHH:MM:SS`, after ISO 8601: nineteen bytes, of a year from 0 to 9999.
use Rattle.std.specs.Prelude.{ℕ, ◌==◌, Bool, ◌&&◌, List, [], ◌∷◌, length, map, take, drop, codes, slice_index_or, ℤ, pos, Option}
use Rattle.tz_types.specs.Civil.{is_civil_second, civil_second}
use Rattle.tz_specs.specs.Choice.{◌>>=◌, only_if}
use Rattle.tz_specs.specs.Number.{number_of}
use Rattle.tz_specs.specs.Value.{is_exactly}

-- the bytes between the numbers
abbrev pub marks_of : List ℕ → List ℕ
marks_of word = map (λ place. slice_index_or word place 0) (4 ∷ 7 ∷ 10 ∷ 13 ∷ 16 ∷ [])

abbrev pub has_civil_marks : List ℕ → Bool
has_civil_marks word = (length word == 19) && is_exactly (marks_of word) (codes "--T::")

-- the number that so many digits from a place on are
abbrev pub digits_at : ℕ → ℕ → List ℕ → Option ℕ
digits_at place digits word = number_of digits digits (take digits (drop place word))

-- the local second that the word names, where the calendar has its date and a clock shows its time
unfoldable pub civil_word : List ℕ → Option ℤ
civil_word word = only_if (has_civil_marks word) word >>= λ marked. do
  year ← digits_at 0 4 marked
  month ← digits_at 5 2 marked
  day ← digits_at 8 2 marked
  hour ← digits_at 11 2 marked
  minute ← digits_at 14 2 marked
  second ← digits_at 17 2 marked
  only_if (is_civil_second (pos year) month day hour minute second) (civil_second (pos year) month day hour minute second)
