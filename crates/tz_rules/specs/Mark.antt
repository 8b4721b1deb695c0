-- Marks in the order of occurrences: a nominal second, and within it a line.
use Rattle.std.specs.Prelude.{ℤ, pos, neg_ℤ, ◌+ℤ◌, ◌<ℤ◌, ◌≤ℤ◌, Bool, ◌&&◌, ◌||◌, nat_lt, int_lt}
use Rattle.std.specs.Ordering.{int_eq}
use Rattle.jiff_core.specs.Calendar.{IsBetween}
use Rattle.tz_types.specs.declared.rule.Rule.{Rule}
use Rattle.tz_specs.specs.Occurrence.{Occurrence, nominal_of, nominal_second}
use Rattle.tz_rules.specs.declared.mark.Mark.{Mark}
use Rattle.tz_rules.specs.Occurs.{OccursIn}

-- the occurrence comes earlier in the order than the mark
abbrev pub is_before : Mark → Occurrence → Bool
is_before mark occurrence =
    int_lt (nominal_of occurrence) mark.second || (int_eq (nominal_of occurrence) mark.second && nat_lt occurrence.rule.line mark.line)

-- and here later
abbrev pub is_after : Mark → Occurrence → Bool
is_after mark occurrence =
    int_lt mark.second (nominal_of occurrence) || (int_eq mark.second (nominal_of occurrence) && nat_lt mark.line occurrence.rule.line)

-- the second isn't far from those that occurrences have
abbrev pub IsInReach : ℤ → Type 0
IsInReach second = IsBetween (neg_ℤ (pos 377_679_000_000)) (pos 253_379_000_000) second

-- no occurrence of a later year lies at or before the second, and each one two years earlier lies before it
pub record IsLatestYear (second latest : ℤ) : Type 0 where
  pub none_later : (rule : Rule) (year : ℤ) → OccursIn rule year → nominal_second year rule.moment ≤ℤ second → year ≤ℤ latest
  pub sure : (rule : Rule) (year : ℤ) → OccursIn rule year → (year +ℤ pos 2) ≤ℤ latest → nominal_second year rule.moment <ℤ second

-- no occurrence of an earlier year lies at or after the second, and each one two years later lies after it
pub record IsEarliestYear (second earliest : ℤ) : Type 0 where
  pub none_earlier : (rule : Rule) (year : ℤ) → OccursIn rule year → second ≤ℤ nominal_second year rule.moment → earliest ≤ℤ year
  pub sure : (rule : Rule) (year : ℤ) → OccursIn rule year → (earliest +ℤ pos 2) ≤ℤ year → second <ℤ nominal_second year rule.moment
