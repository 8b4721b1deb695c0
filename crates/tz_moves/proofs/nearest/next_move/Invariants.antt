use Rattle.std.proofs.Common.{◌+◌, ◌*◌}
use Rattle.std.specs.Int.{int_gap}
use Rattle.tz_specs.specs.Expansion.{end_of_time}
use Rattle.tz_specs.specs.RulesFollowed.{most_rules_followed}
use Rattle.tz_expand.specs.Compiled.{periods}
use Rattle.tz_moves.proofs.WalkLemmas.{IsOnward}
use Rattle.tz_moves.proofs.nearest.next_move.Given as goal

-- how far the walk has come
abbrev pub invariant-loop-before : goal.invariant-loop-before
invariant-loop-before g l = IsOnward l.zone l.t l.before l.fn.steps l.steps (16 * (most_rules_followed (periods l.zone.lines) * (most_rules_followed (periods l.zone.lines) + 2)))

abbrev pub decreases-loop-before : goal.decreases-loop-before
decreases-loop-before g l = int_gap l.before.end end_of_time
