-- The years of a rule in which it occurs.
use Rattle.std.specs.Prelude.{ℤ, ◌≤ℤ◌}
use Rattle.tz_types.specs.Year.{IsRuleYear}
use Rattle.tz_types.specs.declared.rule.Rule.{Rule}

-- the year is one of the rule's, and one from -9998 to 9998
pub record OccursIn (rule : Rule) (year : ℤ) : Type 0 where
  pub since : rule.from ≤ℤ year
  pub through : year ≤ℤ rule.to
  pub year_in : IsRuleYear year
