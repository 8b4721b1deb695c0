-- Rule sets put in the order of their names.
use Rattle.std.specs.Prelude.{List, [], ◌∷◌, if◌then◌else◌}
use Rattle.tz_types.specs.Order.{name_before}
use Rattle.tz_specs.specs.Written.{WrittenSet}

-- one more set, behind those whose names come before its own
abbrev pub with_set : WrittenSet → List WrittenSet → List WrittenSet
with_set set [] = set ∷ []
with_set set (other ∷ sets) =
    if name_before other.name set.name then other ∷ with_set set sets else set ∷ other ∷ sets

-- each put in its place
abbrev pub in_name_order : List WrittenSet → List WrittenSet
in_name_order [] = []
in_name_order (set ∷ sets) = with_set set (in_name_order sets)
