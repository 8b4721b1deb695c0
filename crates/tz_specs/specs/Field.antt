-- The fields of a line, after zic(8), "Input files": runs of bytes between white space, of which a part may stand
-- in double quotes; an unquoted # begins a comment, and ends a field.
use Rattle.std.specs.Prelude.{ℕ, ◌==◌, nat_le, Bool, true, not, ◌&&◌, ◌||◌, if◌then◌else◌, List, [], ◌∷◌, ◌++◌, Option, Some, None, option_map, IsTrue}
use Rattle.std.specs.List.{list_all}

abbrev pub quote : ℕ
quote = 0x22

abbrev pub hash : ℕ
hash = 0x23

-- space, tab, newline, vertical tab, form feed or carriage return
abbrev pub is_white : ℕ → Bool
is_white byte = (byte == 0x20) || (nat_le 0x09 byte && nat_le byte 0x0d)

-- where a byte of a line stands: between fields, in a field, or in a quoted piece of a field
pub data Place : Type 0 where
  Between : Place
  Inside : Place
  Quoted : Place

-- The fields of the rest of a line, by the place where it goes on and by what the field that is open has so far.
-- A quoted piece that the end leaves open gives none.
unfoldable pub fields_from : Place → List ℕ → List ℕ → Option (List (List ℕ))
fields_from Between field [] = Some []
fields_from Between field (byte ∷ rest) =
    if is_white byte then fields_from Between [] rest
    else (if byte == hash then Some []
    else (if byte == quote then fields_from Quoted [] rest
    else fields_from Inside (byte ∷ []) rest))
fields_from Inside field [] = Some (field ∷ [])
fields_from Inside field (byte ∷ rest) =
    if is_white byte then option_map (λ fields. field ∷ fields) (fields_from Between [] rest)
    else (if byte == hash then Some (field ∷ [])
    else (if byte == quote then fields_from Quoted field rest
    else fields_from Inside (field ++ byte ∷ []) rest))
fields_from Quoted field [] = None
fields_from Quoted field (byte ∷ rest) =
    if byte == quote then fields_from Inside field rest else fields_from Quoted (field ++ byte ∷ []) rest

-- the fields of a line
abbrev pub fields_of : List ℕ → Option (List (List ℕ))
fields_of line = fields_from Between [] line

-- The same said by what stands in the line, without reading it byte by byte.

-- no white space, no # and no quote
abbrev pub is_plain : ℕ → Bool
is_plain byte = not (is_white byte) && not (byte == hash) && not (byte == quote)

-- a field ends at the end of the line, at white space and at #
abbrev pub ends_field : List ℕ → Bool
ends_field [] = true
ends_field (byte ∷ line) = is_white byte || (byte == hash)

-- the line, which stands behind a quote, has this piece before the next quote, and this behind that quote
pub data ClosesQuote : List ℕ → List ℕ → List ℕ → Type 0 where
  quote_here : {rest : List ℕ} → ClosesQuote (quote ∷ rest) [] rest
  quote_later : {byte : ℕ} {line piece rest : List ℕ}
      → IsTrue (not (byte == quote)) → ClosesQuote line piece rest → ClosesQuote (byte ∷ line) (byte ∷ piece) rest

-- the line begins with plain bytes and quoted pieces, which together have this content and go on to where a field ends
pub data Run : List ℕ → List ℕ → List ℕ → Type 0 where
  run_ends : {rest : List ℕ} → IsTrue (ends_field rest) → Run rest [] rest
  plain_byte : {byte : ℕ} {line content rest : List ℕ}
      → IsTrue (is_plain byte) → Run line content rest → Run (byte ∷ line) (byte ∷ content) rest
  quoted_piece : {line piece after content rest : List ℕ}
      → ClosesQuote line piece after → Run after content rest → Run (quote ∷ line) (piece ++ content) rest

-- the line stands for these fields
pub data StandsFor : List ℕ → List (List ℕ) → Type 0 where
  no_more : StandsFor [] []
  a_comment : {line : List ℕ} → StandsFor (hash ∷ line) []
  white_space : {byte : ℕ} {line : List ℕ} {fields : List (List ℕ)}
      → IsTrue (is_white byte) → StandsFor line fields → StandsFor (byte ∷ line) fields
  a_field : {line content rest : List ℕ} {fields : List (List ℕ)}
      → IsTrue (not (ends_field line)) → Run line content rest → StandsFor rest fields → StandsFor line (content ∷ fields)

-- the line begins with plain bytes and quoted pieces, and then with a quote behind which no other stands
pub data OpensQuote : List ℕ → Type 0 where
  plain_then_open : {byte : ℕ} {line : List ℕ} → IsTrue (is_plain byte) → OpensQuote line → OpensQuote (byte ∷ line)
  piece_then_open : {line piece after : List ℕ}
      → ClosesQuote line piece after → OpensQuote after → OpensQuote (quote ∷ line)
  open_here : {line : List ℕ} → IsTrue (list_all (λ byte. not (byte == quote)) line) → OpensQuote (quote ∷ line)

-- behind white space and whole fields, a field of the line has a quoted piece that isn't closed
pub data LeavesQuoteOpen : List ℕ → Type 0 where
  open_field : {line : List ℕ} → OpensQuote line → LeavesQuoteOpen line
  white_then_open : {byte : ℕ} {line : List ℕ}
      → IsTrue (is_white byte) → LeavesQuoteOpen line → LeavesQuoteOpen (byte ∷ line)
  field_then_open : {line content rest : List ℕ}
      → IsTrue (not (ends_field line)) → Run line content rest → LeavesQuoteOpen rest → LeavesQuoteOpen line
