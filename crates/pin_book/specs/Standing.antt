-- The list as it stands.
use Rattle.std.specs.Prelude.{ℕ, List}
use Rattle.pin_book.specs.declared.listed.Listed.{Listed}

-- what is listed, newest first, with names, and the number that each slot keeps
pub record Rows : Type 0 where
  pub listed : List Listed
  pub kept : List ℕ
