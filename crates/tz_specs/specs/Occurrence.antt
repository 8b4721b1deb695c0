-- When rules occur, after zic(8), "Rule lines": each rule once in each of its years.
use Rattle.std.specs.Prelude.{◌+◌, ◌*◌, Bool, ◌&&◌, ◌||◌, if◌then◌else◌, nat_lt, int_lt, int_le, List, [], ◌∷◌, map, filter, flat_map, ℤ, pos, ◌+ℤ◌, ◌-ℤ◌, ◌*ℤ◌}
use Rattle.std.specs.List.{range_with_len}
use Rattle.std.specs.Ordering.{int_eq}
use Rattle.tz_types.specs.declared.limit.TheConstants.{LAST_RULE_YEAR}
use Rattle.tz_types.specs.declared.moment.Moment.{Moment}
use Rattle.tz_types.specs.declared.rule.Rule.{Rule}
use Rattle.tz_types.specs.declared.rule_set.RuleSet.{RuleSet}
use Rattle.tz_types.specs.Calendar.{day_number}

-- the seconds from 1970-01-01 00:00:00 on the clock that the moment is read from
abbrev pub nominal_second : ℤ → Moment → ℤ
nominal_second year moment = (pos 86_400 *ℤ day_number year moment.month moment.on) +ℤ moment.at

-- a rule in one of its years
pub record Occurrence : Type 0 where
  pub rule : Rule
  pub year : ℤ

-- the nominal second of an occurrence
abbrev pub nominal_of : Occurrence → ℤ
nominal_of occurrence = nominal_second occurrence.year occurrence.rule.moment

-- the years in which rules may occur: -9998 to 9998
unfoldable pub rule_years : List ℤ
rule_years = map (λ n. pos n -ℤ pos LAST_RULE_YEAR) (range_with_len 0 (2 * LAST_RULE_YEAR + 1))

-- the year is one from FROM to TO
abbrev pub is_year_of : Rule → ℤ → Bool
is_year_of rule year = int_le rule.from year && int_le year rule.to

-- the occurrences of one rule
abbrev pub occurrences_of_rule : Rule → List Occurrence
occurrences_of_rule rule = map (λ year. record { rule = rule; year = year }) (filter (is_year_of rule) rule_years)

-- the earlier nominal second comes first, and in one nominal second the earlier line
abbrev pub precedes : Occurrence → Occurrence → Bool
precedes a b =
    int_lt (nominal_of a) (nominal_of b) || (int_eq (nominal_of a) (nominal_of b) && nat_lt a.rule.line b.rule.line)

-- the occurrence put into a list in order, before the first one that it precedes
abbrev pub put_in_order : Occurrence → List Occurrence → List Occurrence
put_in_order occurrence [] = occurrence ∷ []
put_in_order occurrence (next ∷ later) =
    if precedes occurrence next then occurrence ∷ next ∷ later else next ∷ put_in_order occurrence later

abbrev pub in_order : List Occurrence → List Occurrence
in_order [] = []
in_order (occurrence ∷ others) = put_in_order occurrence (in_order others)

-- every rule of the set in every one of its years, in order; their numbers are their places from 1
unfoldable pub occurrences : RuleSet → List Occurrence
occurrences set = in_order (flat_map occurrences_of_rule set.rules)
