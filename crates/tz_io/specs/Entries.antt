-- A list of files in memory: what each name holds, and where its count stands.
use Rattle.std.specs.Prelude.{ℕ, List, Option, Some, None, Bool, Vec, String, string_bytes, bytes_eq, slice_index}
use Rattle.std.specs.List.{find, position}
use Rattle.std.specs.Option.{option_map}
use Rattle.std.specs.declared.alloc.Global.{Global}

-- A file's name and its content.
abbrev pub Entry : Type 0
Entry = String Global × Vec ℕ Global

-- Whether an entry has that name.
abbrev pub is_entry_named : List ℕ → Entry → Bool
is_entry_named name entry = bytes_eq (string_bytes entry.0) name

-- The content of each name: that of the first entry of the name.
abbrev pub entry_contents : List Entry → List ℕ → Option (List ℕ)
entry_contents list name = option_map (λ entry. entry.1.items) (find (is_entry_named name) list)

-- The place of the first entry of that name.
abbrev pub entry_place : List Entry → List ℕ → Option ℕ
entry_place list name = position (is_entry_named name) list

-- The count of the entry at a place, or that of all names with no entry.
abbrev pub entry_count : List ℕ → ℕ → Option ℕ → ℕ
entry_count counts others (Some place) = slice_index counts place
entry_count counts others None = others
