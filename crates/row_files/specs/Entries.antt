-- Lists of files in memory, as plain names and bytes.
use Rattle.std.specs.Prelude.{List, ℕ, map, string_bytes}
use Rattle.tz_io.specs.Entries.{Entry}

-- The names of files, each with the bytes that its file holds.
abbrev pub names_and_bytes : List Entry → List (List ℕ × List ℕ)
names_and_bytes list = map (λ entry. (string_bytes entry.0, entry.1.items)) list
