-- Which reader number goes out.
use Rattle.std.specs.Prelude.{◌≡◌, ℕ, ◌≤◌, ◌<◌, List}
use Rattle.pin_core.specs.declared.view.View.{View}
use Rattle.pin_core.specs.Core.{times}
use Rattle.pin_core.specs.Step.{left_over, split_off}

-- the number is the least of these
pub record IsLeastNumber (numbers : List ℕ) (number : ℕ) : Type 0 where
  pub among : 0 < times number numbers
  pub least : (other : ℕ) → 0 < times other numbers → number ≤ other

-- a main's view was split: the reader of its least number has so many writes, and the main the rest
pub record SplitsLeast (readers writes : ℕ) (main main' reader : View) : Type 0 where
  pub number : ℕ
  pub least : IsLeastNumber main.numbers number
  pub left : main' ≡ left_over readers number writes main
  pub right : reader ≡ split_off readers number writes main
