use Rattle.std.proofs.Common.{◌≡◌, ◌<◌, ◌↔◌, ℕ, length, true, false, get_or}
use Rattle.pin_table.proofs.main_seat.first_numbers.Given as goal

abbrev pub invariant-loop-number : goal.invariant-loop-number
invariant-loop-number l = (length l.has ≡ 16) × ((n : ℕ) → (get_or l.has n false ≡ true) ↔ (n < l.number))
