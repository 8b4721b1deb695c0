-- Leap seconds as a table has them: what each adds to the UTC count, and what those before a place add.
use Rattle.std.specs.Prelude.{Bool, if◌then◌else◌, List, [], ◌∷◌, ℤ, pos, neg_ℤ, ◌+ℤ◌}
use Rattle.tz_types.specs.declared.leap_entry.LeapEntry.{LeapEntry}

-- a second that is added counts 1, and one that is skipped -1
abbrev pub sign : Bool → ℤ
sign added = if added then pos 1 else neg_ℤ (pos 1)

-- the sum of the signs of the entries that pass a test
abbrev pub sum_where : (LeapEntry → Bool) → List LeapEntry → ℤ
sum_where passes [] = pos 0
sum_where passes (entry ∷ entries) =
    (if passes entry then sign entry.added else pos 0) +ℤ sum_where passes entries

-- the sum before each place, where one stands before them all, and last the sum of all
abbrev pub running_sums : ℤ → List LeapEntry → List ℤ
running_sums sum [] = sum ∷ []
running_sums sum (entry ∷ entries) = sum ∷ running_sums (sum +ℤ sign entry.added) entries
