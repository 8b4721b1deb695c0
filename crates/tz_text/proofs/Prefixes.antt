-- A prefix, ASCII case aside, by pairs of bytes.
use Rattle.std.proofs.Common.{◌≡◌, ℕ, ◌<◌, ◌≤◌, ◌==◌, ◌&&◌, Bool, true, false, List, [], ◌∷◌, length, refl, ap, arith, nat_eq, ◌∙◌}
use Rattle.std.specs.List.{list_all, starts_with, zip}
use Rattle.tz_specs.specs.Word.{lower, lowered}

pub alike_prefix : (text prefix : List ℕ) → length prefix ≤ length text → starts_with nat_eq (lowered text) (lowered prefix) ≡ list_all (λ pair. lower pair.0 == lower pair.1) (zip prefix text)
alike_prefix text [] fits = refl
alike_prefix [] (byte ∷ bytes) fits = absurd (omega arith)
alike_prefix (other ∷ others) (byte ∷ bytes) fits =
    ap (λ rest. (lower byte == lower other) && rest) (alike_prefix others bytes (omega arith))

and_false : (b : Bool) → (b && false) ≡ false
and_false true = refl
and_false false = refl

pub alike_short : (text prefix : List ℕ) → length text < length prefix → starts_with nat_eq (lowered text) (lowered prefix) ≡ false
alike_short text [] short = absurd (omega arith)
alike_short [] (byte ∷ bytes) short = refl
alike_short (other ∷ others) (byte ∷ bytes) short =
    ap (λ rest. (lower byte == lower other) && rest) (alike_short others bytes (omega arith)) ∙ and_false (lower byte == lower other)
