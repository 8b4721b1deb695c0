-- Occurrences told by where their rules stand in a set.
use Rattle.std.specs.Prelude.{◌≡◌, Some, slice_get}
use Rattle.tz_types.specs.declared.rule_set.RuleSet.{RuleSet}
use Rattle.tz_rules.specs.declared.placed.Placed.{Placed}
use Rattle.tz_rules.specs.Occurs.{OccursIn}

-- the set has the rule at that place, and the year is one of the rule's
pub record StandsIn (set : RuleSet) (placed : Placed) : Type 0 where
  pub of_rule : slice_get set.rules placed.place ≡ Some placed.occurrence.rule
  pub occurs : OccursIn placed.occurrence.rule placed.occurrence.year
