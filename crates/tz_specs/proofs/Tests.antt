-- What the tests on signed numbers tell, and cases to split on.
use Rattle.std.proofs.Common.{◌≡◌, Bool, true, false, ⊎_elim, arith, ℤ, ◌<ℤ◌, ◌≤ℤ◌, sym, ◌∙◌}
use Rattle.std.specs.Prelude.{int_lt, int_le}
use Rattle.std.specs.Ordering.{int_eq}
use Rattle.std.proofs.lemmas.Int.{ints}
use Rattle.std.proofs.lemmas.Bool.{cases_Bool, false≢true}

pub by_test : {P : Type 0} (b : Bool) → (b ≡ true → P) → (b ≡ false → P) → P
by_test b yes_case no_case = ⊎_elim yes_case no_case (cases_Bool b)

pub not_both : {P : Type 0} (b : Bool) → b ≡ true → b ≡ false → P
not_both b t f = absurd (false≢true (sym f ∙ t))

pub int_le-true : (a b : ℤ) → int_le a b ≡ true → a ≤ℤ b
int_le-true a b h = omega (arith, ints)

pub int_le-false : (a b : ℤ) → int_le a b ≡ false → b <ℤ a
int_le-false a b h = omega (arith, ints)

pub int_lt-true : (a b : ℤ) → int_lt a b ≡ true → a <ℤ b
int_lt-true a b h = omega (arith, ints)

pub int_lt-false : (a b : ℤ) → int_lt a b ≡ false → b ≤ℤ a
int_lt-false a b h = omega (arith, ints)

pub le-int_le : (a b : ℤ) → a ≤ℤ b → int_le a b ≡ true
le-int_le a b h = grind (arith, ints)

pub lt-int_le : (a b : ℤ) → b <ℤ a → int_le a b ≡ false
lt-int_le a b h = grind (arith, ints)

pub lt-int_lt : (a b : ℤ) → a <ℤ b → int_lt a b ≡ true
lt-int_lt a b h = grind (arith, ints)

pub le-int_lt : (a b : ℤ) → b ≤ℤ a → int_lt a b ≡ false
le-int_lt a b h = grind (arith, ints)

pub int_eq-true : (a b : ℤ) → int_eq a b ≡ true → a ≡ b
int_eq-true a b h = grind (arith, ints)

pub eq-int_eq : (a b : ℤ) → a ≡ b → int_eq a b ≡ true
eq-int_eq a b h = grind (arith, ints)
