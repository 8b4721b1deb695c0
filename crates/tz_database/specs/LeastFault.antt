-- The least of faults that are told one after another.
use Rattle.std.specs.Prelude.{◌≡◌, List, [], ◌∷◌, if◌then◌else◌, Option, Some, None}
use Rattle.tz_types.specs.declared.fault.LineFault.{LineFault}
use Rattle.tz_specs.specs.Whole.{is_told_before, IsLeast}

-- the lesser of the least so far, if there is one, and another
abbrev pub lesser : Option LineFault → LineFault → Option LineFault
lesser None fault = Some fault
lesser (Some least) fault = if is_told_before least fault then Some least else Some fault

-- the least so far, when some more are told
abbrev pub told_with : Option LineFault → List LineFault → Option LineFault
told_with least [] = least
told_with least (fault ∷ faults) = told_with (lesser least fault) faults

-- the least of all, or none where there are no faults
abbrev pub IsLeastOf : List LineFault → Option LineFault → Type 0
IsLeastOf faults None = faults ≡ []
IsLeastOf faults (Some fault) = IsLeast faults fault
