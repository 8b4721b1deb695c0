-- What it takes to be an occurrence of a rule set, a cut of a line and a range of it.
use Rattle.std.specs.Prelude.{◌≡◌, ℕ, suc, ◌⊎◌, ℤ, ◌≤ℤ◌, ◌<ℤ◌, Some, slice_get}
use Rattle.std.specs.List.{Contains}
use Rattle.tz_types.specs.declared.rule_set.RuleSet.{RuleSet}
use Rattle.tz_types.specs.Year.{IsRuleYear}
use Rattle.tz_types.specs.declared.range.SysInfo.{SysInfo}
use Rattle.tz_specs.specs.Occurrence.{Occurrence, occurrences}
use Rattle.tz_specs.specs.State.{instants, state_at}
use Rattle.tz_specs.specs.Until.{Following, Nothing, Fixed, Rules}
use Rattle.tz_specs.specs.Expansion.{Period, range_of}

-- one of the set's rules, in one of the rule's years, from -9998 to 9998
pub record IsOccurrence (set : RuleSet) (occurrence : Occurrence) : Type 0 where
  pub of_rule : Contains set.rules occurrence.rule
  pub since : occurrence.rule.from ≤ℤ occurrence.year
  pub through : occurrence.year ≤ℤ occurrence.rule.to
  pub year_in : IsRuleYear occurrence.year

-- An occurrence is in effect from this instant on: the instant is its own one, and it is then the state.
abbrev pub TakesEffect : Following → ℤ → ℤ → Type 0
TakesEffect Nothing stdoff instant = ⊥
TakesEffect (Fixed save daylight) stdoff instant = ⊥
TakesEffect (Rules set) stdoff instant =
    (place : ℕ) × (slice_get (instants stdoff (occurrences set)) place ≡ Some instant) × (state_at (instants stdoff (occurrences set)) instant ≡ suc place)

-- a line is cut where an occurrence takes effect strictly inside it
pub record IsCut (period : Period) (instant : ℤ) : Type 0 where
  pub after_start : period.start <ℤ instant
  pub before_finish : instant <ℤ period.finish
  pub takes_effect : TakesEffect period.following period.stdoff instant

-- A range of a line: from the line's start or a cut to the next cut or the line's end.
pub record IsRangeOf (period : Period) (range : SysInfo) : Type 0 where
  pub begins : (range.begin ≡ period.start) ⊎ IsCut period range.begin
  pub ends : (range.end ≡ period.finish) ⊎ IsCut period range.end
  pub takes_time : range.begin <ℤ range.end
  pub uncut : (instant : ℤ) → range.begin <ℤ instant → instant <ℤ range.end → ¬ (IsCut period instant)
  pub told : range ≡ range_of period range.begin range.end
