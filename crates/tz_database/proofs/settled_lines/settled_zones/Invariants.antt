use Rattle.std.proofs.Common.{ℕ, List}
use Rattle.tz_types.specs.declared.rule_set.RuleSet.{RuleSet}
use Rattle.tz_database.specs.Settled.{ArePlaces, AreSettledZones}
use Rattle.tz_database.proofs.settled_lines.settled_zones.Given as goal

abbrev pub invariant-loop-zone : goal.invariant-loop-zone
invariant-loop-zone l =
    (sets : List RuleSet) → (names : List (List ℕ)) → ArePlaces l.places sets names → AreSettledZones sets names l.yielded l.settled.items
