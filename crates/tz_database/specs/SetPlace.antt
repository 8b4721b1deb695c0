-- Where the rule set of a name stands.
use Rattle.std.specs.Prelude.{ℕ, List, Option, position}
use Rattle.tz_types.specs.declared.rule_set.RuleSet.{RuleSet}
use Rattle.tz_specs.specs.Value.{is_exactly}

-- the place of the set with that name among the sets
abbrev pub set_place_of : List RuleSet → List ℕ → Option ℕ
set_place_of sets name = position (λ (set : RuleSet). is_exactly set.name name) sets
