-- Values of digits, and powers of ten.
use Rattle.std.proofs.Common.{ℕ, ◌+◌, ◌<◌, ◌≤◌, ◌^◌, Option, Some, None, IfSome, lit<, arith}
use Rattle.std.proofs.Math.Nat.{pow-le-pow_right}

-- after fewer than fifteen digits there is room for one more
pub more_room : (value digits : ℕ) → value + 1 ≤ 10 ^ digits → digits < 15 → value + 1 ≤ 100_000_000_000_000
more_room value digits fits few =
    omega (arith, pow-le-pow_right {n = 10} (lit< tt) {i = digits} {j = 14} (omega arith))

-- a value of so many digits is below the power for more of them
pub below_wider : (value : Option ℕ) (digits most : ℕ) → digits ≤ most → IfSome value (λ v. v < 10 ^ digits) → IfSome value (λ v. v < 10 ^ most)
below_wider None digits most wider below = tt
below_wider (Some v) digits most wider below =
    omega (arith, pow-le-pow_right {n = 10} (lit< tt) {i = digits} {j = most} wider)

-- up to twelve digits
pub below_limit : (value digits : ℕ) → value < 10 ^ digits → digits ≤ 12 → value < 1_000_000_000_000
below_limit value digits below few =
    omega (arith, pow-le-pow_right {n = 10} (lit< tt) {i = digits} {j = 12} few)
