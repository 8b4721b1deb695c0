-- How a range is called, after zic(8), "Zone lines", FORMAT.
use Rattle.std.specs.Prelude.{ℕ, ◌+◌, ◌/◌, ◌%◌, ◌==◌, if◌then◌else◌, List, [], ◌∷◌, ◌++◌, ℤ, pos, int_lt, unsigned_abs}
use Rattle.tz_types.specs.declared.format.Format.{Format}
use Rattle.tz_types.specs.declared.format.Format.TheVariants as formats
use Rattle.tz_specs.specs.State.{InForce}

-- two digits
abbrev pub two_digits : ℕ → List ℕ
two_digits n = (0x30 + n / 10) ∷ (0x30 + n % 10) ∷ []

-- the shortest of hours, hours and minutes, and hours, minutes and seconds that loses nothing
abbrev pub clock_text : ℕ → List ℕ
clock_text size =
    two_digits (size / 3600)
    ++ (if size % 60 == 0 then (if size % 3600 == 0 then [] else two_digits (size / 60 % 60))
    else two_digits (size / 60 % 60) ++ two_digits (size % 60))

-- an offset as `%z` writes it, as `+02` or `-0330`; 0 is `+00`
abbrev pub offset_text : ℤ → List ℕ
offset_text offset = (if int_lt offset (pos 0) then 0x2d else 0x2b) ∷ clock_text (unsigned_abs offset)

-- the abbreviation under what is in force, at an offset
unfoldable pub abbreviation : Format → InForce → ℤ → List ℕ
abbreviation (formats.Text text) state offset = text
abbreviation (formats.Letters before after) state offset = before ++ state.letters ++ after
abbreviation (formats.Offset before after) state offset = before ++ offset_text offset ++ after
abbreviation (formats.Pair standard daylight) state offset = if state.daylight then daylight else standard
