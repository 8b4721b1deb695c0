-- The running sums of leap seconds, one after another.
use Rattle.std.proofs.Common.{◌≡◌, ℕ, ◌+◌, ◌<◌, List, [], ◌∷◌, ◌++◌, length, get_or, drop, ℤ, pos, ◌+ℤ◌, refl, ap, ◌∙◌, append_assoc, add-one}
use Rattle.std.proofs.Math.Seq.{drop-cons}
use Rattle.tz_types.specs.declared.leap_entry.LeapEntry.{LeapEntry}
use Rattle.tz_types.specs.Leap.{sign, running_sums}

-- one more sum is written, and the next counts one more entry
pub sums_more : (entries : List LeapEntry) (place : ℕ) (d : LeapEntry) (written after : List ℤ) (sum next : ℤ) → place < length entries → running_sums (pos 0) entries ≡ written ++ running_sums sum (drop place entries) → after ≡ written ++ sum ∷ [] → next ≡ sum +ℤ sign (get_or entries place d).added → running_sums (pos 0) entries ≡ after ++ running_sums next (drop (place + 1) entries)
sums_more entries place d written after sum next within so_far is more =
    let left : drop place entries ≡ get_or entries place d ∷ drop (place + 1) entries = rw (add-one, drop-cons entries place d) refl in
    rw (is, more, append_assoc) (so_far ∙ ap (λ (rest : List LeapEntry). written ++ running_sums sum rest) left)
