-- The least of the lines that give a name to a zone or a link.
use Rattle.std.specs.Prelude.{ℕ, min, nat_lt, Bool, false, if◌then◌else◌, List, [], ◌∷◌, Option, Some, None}
use Rattle.tz_types.specs.declared.cause.Cause.TheVariants as causes
use Rattle.tz_types.specs.declared.fault.LineFault.{LineFault}
use Rattle.tz_specs.specs.Value.{is_exactly}
use Rattle.tz_specs.specs.Whole.{fault_where}

-- the lesser of the least line so far, if there is one, and another
abbrev pub lesser_line : Option ℕ → ℕ → Option ℕ
lesser_line None line = Some line
lesser_line (Some least) line = Some (min line least)

-- the least line so far that gives the name, when some more names are given
abbrev pub first_line : List ℕ → Option ℕ → List (List ℕ × ℕ) → Option ℕ
first_line name least [] = least
first_line name least (here ∷ names) =
    first_line name (if is_exactly here.0 name then lesser_line least here.1 else least) names

-- the least line lies before this one
abbrev pub has_lesser_line : Option ℕ → ℕ → Bool
has_lesser_line None line = false
has_lesser_line (Some least) line = nat_lt least line

-- a name that has a lesser line, by the least line of each name
abbrev pub later_name : (List ℕ → Option ℕ) → List ℕ × ℕ → Option LineFault
later_name least_of here = fault_where (has_lesser_line (least_of here.0) here.1) here.1 causes.DuplicateName
