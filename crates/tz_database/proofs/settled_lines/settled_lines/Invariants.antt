use Rattle.std.proofs.Common.{◌≡◌, ℕ, List, length, take, drop}
use Rattle.tz_types.specs.declared.rule_set.RuleSet.{RuleSet}
use Rattle.tz_database.specs.Settled.{ArePlaces, AreSettled}
use Rattle.tz_database.proofs.settled_lines.settled_lines.Given as goal

-- the lines so far are settled, and those that are left are as they were
abbrev pub invariant-loop-line : goal.invariant-loop-line
invariant-loop-line l =
    record {
      all : length l.line-items ≡ length l.fn.lines;
      settled : (sets : List RuleSet) → (names : List (List ℕ)) → ArePlaces l.places sets names → AreSettled sets names (take l.line-index l.fn.lines) (take l.line-index l.line-items);
      left : drop l.line-index l.line-items ≡ drop l.line-index l.fn.lines;
    }
