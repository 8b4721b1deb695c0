-- What a line follows, told by a rule set or a fixed save.
use Rattle.std.specs.Prelude.{ℤ, false, Option, Some, None}
use Rattle.tz_types.specs.declared.rule_set.RuleSet.{RuleSet}
use Rattle.tz_specs.specs.Until.{Following, Fixed, Rules}

-- the rule set, or without one the fixed save
abbrev pub following_given : Option RuleSet → ℤ → Following
following_given None fixed = Fixed fixed false
following_given (Some set) fixed = Rules set
