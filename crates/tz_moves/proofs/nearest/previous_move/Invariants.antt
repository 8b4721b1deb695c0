use Rattle.std.proofs.Common.{◌+◌, ◌*◌}
use Rattle.std.specs.Int.{int_gap}
use Rattle.tz_specs.specs.Expansion.{first_instant}
use Rattle.tz_specs.specs.RulesFollowed.{most_rules_followed}
use Rattle.tz_expand.specs.Compiled.{periods}
use Rattle.tz_moves.proofs.WalkLemmas.{IsBackward}
use Rattle.tz_moves.proofs.nearest.previous_move.Given as goal

-- how far the walk has come
abbrev pub invariant-loop-range : goal.invariant-loop-range
invariant-loop-range g l = IsBackward l.zone l.t l.range l.fn.steps l.steps (16 * (most_rules_followed (periods l.zone.lines) * (most_rules_followed (periods l.zone.lines) + 2)))

abbrev pub decreases-loop-range : goal.decreases-loop-range
decreases-loop-range g l = int_gap first_instant l.range.begin
