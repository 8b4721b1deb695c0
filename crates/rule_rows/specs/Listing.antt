-- Occurrences put in order one by one.
use Rattle.std.specs.Prelude.{if◌then◌else◌, List, [], ◌∷◌, ℤ}
use Rattle.tz_types.specs.declared.rule.Rule.{Rule}
use Rattle.tz_specs.specs.Occurrence.{Occurrence, is_year_of, put_in_order}

-- the occurrences put into a list in order, the last of them first
abbrev pub put_all : List Occurrence → List Occurrence → List Occurrence
put_all [] list = list
put_all (occurrence ∷ others) list = put_in_order occurrence (put_all others list)

-- the rule's occurrence in the year, if it is one of its years
abbrev pub occurrence_in : Rule → ℤ → List Occurrence
occurrence_in rule year = if is_year_of rule year then record { rule = rule; year = year } ∷ [] else []
