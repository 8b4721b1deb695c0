-- Where a name stands among names that ascend.
use Rattle.std.specs.Prelude.{ℕ, suc, if◌then◌else◌, List, [], ◌∷◌, Result, Ok, Err}
use Rattle.tz_types.specs.Order.{name_before}
use Rattle.tz_specs.specs.Value.{is_exactly}

-- one place later, behind one more name
abbrev pub one_later : Result ℕ ℕ → Result ℕ ℕ
one_later (Ok place) = Ok (suc place)
one_later (Err place) = Err (suc place)

-- the place of the name, or else the place where it would stand
unfoldable pub name_place : List ℕ → List (List ℕ) → Result ℕ ℕ
name_place name [] = Err 0
name_place name (other ∷ names) =
    if is_exactly other name then Ok 0
    else (if name_before name other then Err 0 else one_later (name_place name names))
