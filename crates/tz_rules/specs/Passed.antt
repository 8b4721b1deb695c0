-- How far along the occurrences an UNTIL lies for sure.
use Rattle.std.specs.Prelude.{ℤ, pos, ◌<ℤ◌, IsTrue, Option, Some, None}
use Rattle.tz_types.specs.declared.rule_set.RuleSet.{RuleSet}
use Rattle.tz_types.specs.declared.moment.Moment.{Moment}
use Rattle.tz_specs.specs.Occurrence.{Occurrence, nominal_of, precedes}
use Rattle.tz_specs.specs.Standing.{IsOccurrence}
use Rattle.tz_specs.specs.Effect.{until_with, NextBefore, FirstBefore, FirstNotBefore, IsUntilUnder}
use Rattle.tz_rules.specs.declared.placed.Placed.{Placed}

-- The UNTIL isn't read under an earlier occurrence, nor before the first one: each time the next one comes before it.
pub record Passed (set : RuleSet) (stdoff year : ℤ) (moment : Moment) (occurrence : Occurrence) : Type 0 where
  pub is : IsOccurrence set occurrence
  pub passed : (earlier : Occurrence) → IsOccurrence set earlier → IsTrue (precedes earlier occurrence) → NextBefore set stdoff earlier (until_with stdoff year moment earlier.rule.save)
  pub passed_first : FirstBefore set stdoff (until_with stdoff year moment (pos 0))

-- each occurrence has a later nominal second
abbrev pub NoneBy : RuleSet → ℤ → Type 0
NoneBy set second = (other : Occurrence) → IsOccurrence set other → second <ℤ nominal_of other

-- an occurrence that the UNTIL passes; none where the first one, if there is one, doesn't come before it
abbrev pub PassesFirst : RuleSet → ℤ → ℤ → Moment → Option Placed → Type 0
PassesFirst set stdoff year moment None = FirstNotBefore set stdoff (until_with stdoff year moment (pos 0))
PassesFirst set stdoff year moment (Some found) = Passed set stdoff year moment found.occurrence

-- a later one that it passes; none where it is read under the one that it passed
abbrev pub PassesNext : RuleSet → ℤ → ℤ → Moment → Occurrence → Option Placed → Type 0
PassesNext set stdoff year moment under None = IsUntilUnder set stdoff year moment under
PassesNext set stdoff year moment under (Some next) =
    IsTrue (precedes under next.occurrence) × Passed set stdoff year moment next.occurrence
