-- Words may be cut short, after zic(8), "Input files": a field names an entry of a table where it is a prefix of
-- that entry and of no other, ASCII case aside.
use Rattle.std.specs.Prelude.{ℕ, ◌+◌, nat_le, nat_eq, Bool, true, false, not, ◌&&◌, if◌then◌else◌, List, [], ◌∷◌, map, Option, Some, None}
use Rattle.std.specs.List.{starts_with}
use Rattle.tz_specs.specs.Parts.{parts_at}

-- an ASCII letter in lower case, and any other byte as it is
abbrev pub lower : ℕ → ℕ
lower byte = if nat_le 0x41 byte && nat_le byte 0x5a then byte + 0x20 else byte

abbrev pub lowered : List ℕ → List ℕ
lowered bytes = map lower bytes

abbrev pub is_empty : List ℕ → Bool
is_empty [] = true
is_empty (byte ∷ bytes) = false

-- the word is a nonempty prefix of the entry, ASCII case aside
abbrev pub begins_entry : List ℕ → List ℕ → Bool
begins_entry word entry = not (is_empty word) && starts_with nat_eq (lowered entry) (lowered word)

-- the places of the entries that the word begins, where the first entry's place is given
abbrev pub places_from : ℕ → List ℕ → List (List ℕ) → List ℕ
places_from place word [] = []
places_from place word (entry ∷ entries) =
    if begins_entry word entry then place ∷ places_from (place + 1) word entries
    else places_from (place + 1) word entries

-- the element of a list that has one
abbrev pub only_one : List ℕ → Option ℕ
only_one [] = None
only_one (place ∷ []) = Some place
only_one (place ∷ other ∷ places) = None

-- the place, from 0, of the one entry that the word names; a table has its entries with one space between neighbours
unfoldable pub named_entry : List ℕ → List ℕ → Option ℕ
named_entry word table = only_one (places_from 0 word (parts_at 0x20 table))
