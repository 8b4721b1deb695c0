-- The copies that a push needs of its version.
use Rattle.std.specs.Prelude.{ℕ}

-- a version, and how many reader numbers there are copies of it for
pub record Supply (P : Type 0) : Type 0 where
  pub version : P
  pub readers : ℕ
