-- The lines of a text: cut at each newline. What stands after the last newline is a line where it has a byte.
use Rattle.std.specs.Prelude.{ℕ, ◌+◌, ◌==◌, List, [], ◌∷◌, length, if◌then◌else◌}

abbrev pub newline : ℕ
newline = 10

-- the byte at the front of the first line
abbrev pub onto_first : ℕ → List (List ℕ) → List (List ℕ)
onto_first byte [] = (byte ∷ []) ∷ []
onto_first byte (line ∷ lines) = (byte ∷ line) ∷ lines

-- each line without its newline
unfoldable pub lines_of : List ℕ → List (List ℕ)
lines_of [] = []
lines_of (byte ∷ text) = if byte == newline then [] ∷ lines_of text else onto_first byte (lines_of text)

-- how long a line is counts its newline, also where the last line has none
abbrev pub line_length : List ℕ → ℕ
line_length line = length line + 1
