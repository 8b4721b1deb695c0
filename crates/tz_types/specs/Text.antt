-- Small texts: names, letters, abbreviations and versions.
use Rattle.std.specs.Prelude.{ℕ, ◌≤◌, Bool, ◌&&◌, List, length, nat_le, IsTrue}
use Rattle.std.specs.List.{list_all}

-- a byte from 0x21 to 0x7E: ASCII's visible characters
abbrev pub is_printable : ℕ → Bool
is_printable byte = nat_le 0x21 byte && nat_le byte 0x7e

-- least to most bytes, all of them visible
pub record IsText (least most : ℕ) (bytes : List ℕ) : Type 0 where
  pub low : least ≤ length bytes
  pub high : length bytes ≤ most
  pub visible : IsTrue (list_all is_printable bytes)
