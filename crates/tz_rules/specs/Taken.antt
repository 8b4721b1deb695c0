-- What the searches for occurrences tell.
use Rattle.std.specs.Prelude.{◌≡◌, ℤ, Option, Some, None, slice_get}
use Rattle.tz_types.specs.declared.rule_set.RuleSet.{RuleSet}
use Rattle.tz_specs.specs.Occurrence.{Occurrence}
use Rattle.tz_specs.specs.Effect.{ComesAt, IsInEffect, NoneInEffect}
use Rattle.tz_specs.specs.Around.{IsToCome, IsNextChange}
use Rattle.tz_rules.specs.declared.taken.Taken.{Taken}

-- the occurrence of the rule at that place of the set, in that year
pub record IsTakenOccurrence (set : RuleSet) (taken : Taken) (occurrence : Occurrence) : Type 0 where
  pub rule : slice_get set.rules taken.rule ≡ Some occurrence.rule
  pub year : occurrence.year ≡ taken.year

-- it is in effect at t, and its own instant is the one told
abbrev pub IsTakenAt : RuleSet → ℤ → ℤ → Taken → Type 0
IsTakenAt set stdoff t taken =
    (occurrence : Occurrence) × IsTakenOccurrence set taken occurrence × IsInEffect set stdoff t occurrence × ComesAt set stdoff occurrence taken.at

-- what is in effect at t is told, and nothing where nothing is in effect
abbrev pub IsLastTaken : RuleSet → ℤ → ℤ → Option Taken → Type 0
IsLastTaken set stdoff t None = NoneInEffect set stdoff t
IsLastTaken set stdoff t (Some taken) = IsTakenAt set stdoff t taken

-- the next change is told with what is in effect from it on, and nothing where nothing is to come
abbrev pub IsNextTaken : RuleSet → ℤ → ℤ → Option Taken → Type 0
IsNextTaken set stdoff t None = (other : Occurrence) → ¬ (IsToCome set stdoff t other)
IsNextTaken set stdoff t (Some taken) = IsNextChange set stdoff t taken.at × IsTakenAt set stdoff taken.at taken
