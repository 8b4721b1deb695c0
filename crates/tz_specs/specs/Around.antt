-- The range around an instant of a line that follows rules: from the last change to the next.
use Rattle.std.specs.Prelude.{◌≡◌, ◌⊎◌, ℤ, ◌≤ℤ◌, ◌<ℤ◌, IsTrue}
use Rattle.tz_types.specs.declared.rule_set.RuleSet.{RuleSet}
use Rattle.tz_specs.specs.Occurrence.{Occurrence, precedes}
use Rattle.tz_specs.specs.Expansion.{Period}
use Rattle.tz_specs.specs.Standing.{IsOccurrence}
use Rattle.tz_specs.specs.Effect.{ComesAt, IsInEffect, NoneInEffect}

-- an occurrence after the one in effect at t; any, where none is
abbrev pub IsToCome : RuleSet → ℤ → ℤ → Occurrence → Type 0
IsToCome set stdoff t occurrence =
    IsOccurrence set occurrence
    × (NoneInEffect set stdoff t ⊎ ((now : Occurrence) × IsInEffect set stdoff t now × IsTrue (precedes now occurrence)))

-- the least instant of those to come
pub record IsNextChange (set : RuleSet) (stdoff t change : ℤ) : Type 0 where
  pub occurrence : Occurrence
  pub to_come : IsToCome set stdoff t occurrence
  pub comes : ComesAt set stdoff occurrence change
  pub soonest : (other : Occurrence) (its_instant : ℤ) → IsToCome set stdoff t other → ComesAt set stdoff other its_instant → change ≤ℤ its_instant

-- the range begins where the occurrence in effect comes, if that lies inside the line, and else where the line starts
abbrev pub IsBeginAround : RuleSet → Period → ℤ → ℤ → Type 0
IsBeginAround set period t begin =
    ((now : Occurrence) × IsInEffect set period.stdoff t now × ComesAt set period.stdoff now begin × (period.start <ℤ begin))
    ⊎ ((begin ≡ period.start) × ((now : Occurrence) (its_instant : ℤ) → IsInEffect set period.stdoff t now → ComesAt set period.stdoff now its_instant → its_instant ≤ℤ period.start))

-- it ends at the next change, if that lies inside the line, and else where the line ends
abbrev pub IsEndAround : RuleSet → Period → ℤ → ℤ → Type 0
IsEndAround set period t end =
    (IsNextChange set period.stdoff t end × (end <ℤ period.finish))
    ⊎ ((end ≡ period.finish) × ((other : Occurrence) (its_instant : ℤ) → IsToCome set period.stdoff t other → ComesAt set period.stdoff other its_instant → period.finish ≤ℤ its_instant))
