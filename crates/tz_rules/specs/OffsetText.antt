-- An offset written with its seconds, of which the shortest text that loses nothing is a part.
use Rattle.std.specs.Prelude.{ℕ, ◌/◌, ◌%◌, if◌then◌else◌, List, ◌∷◌, ◌++◌, ℤ, pos, int_lt, unsigned_abs}
use Rattle.tz_specs.specs.Abbreviation.{two_digits}

-- the sign, and behind it hours, minutes and seconds
abbrev pub offset_with_seconds : ℤ → List ℕ
offset_with_seconds offset =
    (if int_lt offset (pos 0) then 0x2d else 0x2b)
    ∷ (two_digits (unsigned_abs offset / 3600) ++ two_digits (unsigned_abs offset / 60 % 60) ++ two_digits (unsigned_abs offset % 60))
