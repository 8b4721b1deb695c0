-- Calls that were told to fail.
use Rattle.std.specs.Prelude.{ℕ, ◌+◌, ◌-◌, ◌^◌, ◌==◌, List, Bool, min}
use Rattle.std.specs.List.{list_any}

-- The number of the next call, which stops at the greatest that 64 bits hold.
abbrev pub next_call : ℕ → ℕ
next_call calls = min (calls + 1) (2 ^ 64 - 1)

-- Whether the list has the number of that call.
abbrev pub fails_at : List ℕ → ℕ → Bool
fails_at failing call = list_any (λ number. number == call) failing
