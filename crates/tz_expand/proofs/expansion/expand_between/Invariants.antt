use Rattle.std.proofs.Common.{◌≡◌, ℕ, ◌+◌, ◌-◌, ◌*◌, ◌≤◌, length, drop}
use Rattle.std.specs.Prelude.{filter, reverse}
use Rattle.std.specs.List.{count_by}
use Rattle.tz_specs.specs.Expansion.{full_expansion}
use Rattle.tz_specs.specs.RulesFollowed.{most_rules_followed}
use Rattle.tz_expand.specs.Compiled.{periods}
use Rattle.tz_expand.specs.Stretch.{TouchesYears, meets, line_meets}
use Rattle.tz_expand.proofs.expansion.expand_between.Given as goal

abbrev pub invariant-loop-back : goal.invariant-loop-back
invariant-loop-back g l =
    record {
      told : reverse l.ranges.items ≡ filter (meets l.from l.to) (full_expansion (periods (drop (length l.lines - l.back) l.lines)));
      steps : (years : ℕ) → TouchesYears l.from l.to years → l.steps ≤ l.initial.steps + count_by (line_meets l.from l.to) (drop (length l.lines - l.back) l.lines) * (most_rules_followed (periods l.lines) * (years + 12));
    }
