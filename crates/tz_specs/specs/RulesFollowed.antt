-- How many rules a zone has to do with: bounds on work are told by it.
use Rattle.std.specs.Prelude.{ℕ, max, List, [], ◌∷◌, length}
use Rattle.tz_specs.specs.Until.{Following, Nothing, Fixed, Rules}
use Rattle.tz_specs.specs.Expansion.{Period}

-- the rules of the set that a line follows; none where it follows no set
abbrev pub rules_followed : Following → ℕ
rules_followed Nothing = 0
rules_followed (Fixed save daylight) = 0
rules_followed (Rules set) = length set.rules

-- the greatest number of rules in a set that a line of the zone follows; 0 where no line follows a set
abbrev pub most_rules_followed : List Period → ℕ
most_rules_followed [] = 0
most_rules_followed (period ∷ later) = max (rules_followed period.following) (most_rules_followed later)
