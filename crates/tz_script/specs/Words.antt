-- The words of a line: what spaces, tabs and carriage returns separate, up to the comment.
use Rattle.std.specs.Prelude.{ℕ, ◌==◌, nat_lt, Bool, not, ◌||◌, if◌then◌else◌, List, [], ◌∷◌}
use Rattle.std.specs.List.{filter, list_all}
use Rattle.tz_types.specs.Text.{is_printable}
use Rattle.tz_specs.specs.Line.{line_length}
use Rattle.tz_specs.specs.Parts.{onto_part}
use Rattle.tz_specs.specs.Word.{is_empty}
use Rattle.tz_script.specs.declared.limit.TheConstants.{LONGEST_LINE}

-- a space, a tab or a carriage return
abbrev pub is_space : ℕ → Bool
is_space byte = (byte == 0x20) || (byte == 0x09) || (byte == 0x0d)

-- `#`
abbrev pub is_hash : ℕ → Bool
is_hash byte = byte == 0x23

-- a byte that may stand before a comment
abbrev pub is_script_byte : ℕ → Bool
is_script_byte byte = is_printable byte || is_space byte

-- what stands before the first `#`
unfoldable pub before_comment : List ℕ → List ℕ
before_comment [] = []
before_comment (byte ∷ bytes) = if is_hash byte then [] else byte ∷ before_comment bytes

-- the parts round each space
unfoldable pub spaced_parts : List ℕ → List (List ℕ)
spaced_parts [] = [] ∷ []
spaced_parts (byte ∷ bytes) =
    if is_space byte then [] ∷ spaced_parts bytes else onto_part byte (spaced_parts bytes)

-- the parts that have a byte
unfoldable pub script_words : List ℕ → List (List ℕ)
script_words bytes = filter (λ part. not (is_empty part)) (spaced_parts bytes)

-- the words of a line, up to its comment
abbrev pub line_words : List ℕ → List (List ℕ)
line_words line = script_words (before_comment line)

-- the line is longer than 512 bytes with its newline, or has before its comment a byte that may not stand there
abbrev pub is_bad_line : List ℕ → Bool
is_bad_line line = nat_lt LONGEST_LINE (line_length line) || not (list_all is_script_byte (before_comment line))
