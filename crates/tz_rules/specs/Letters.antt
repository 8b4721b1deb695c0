-- The first occurrence with save 0, looked for rule by rule.
use Rattle.std.specs.Prelude.{◌≡◌, ℕ, ◌<◌, ◌⊎◌, ℤ, ◌≤ℤ◌, pos, Option, Some, None, IsTrue, slice_get}
use Rattle.tz_types.specs.declared.rule.Rule.{Rule}
use Rattle.tz_types.specs.declared.rule_set.RuleSet.{RuleSet}
use Rattle.tz_specs.specs.Occurrence.{Occurrence, precedes}
use Rattle.tz_rules.specs.declared.placed.Placed.{Placed}
use Rattle.tz_rules.specs.Occurs.{OccursIn}

-- an occurrence with save 0 of one of the first rules of the set
pub record StandsBelow (set : RuleSet) (count : ℕ) (occurrence : Occurrence) : Type 0 where
  pub place : ℕ
  pub below : place < count
  pub of_rule : slice_get set.rules place ≡ Some occurrence.rule
  pub occurs : OccursIn occurrence.rule occurrence.year
  pub standard : occurrence.rule.save ≡ pos 0

-- it is the first of these
pub record FirstBelow (set : RuleSet) (count : ℕ) (occurrence : Occurrence) : Type 0 where
  pub is : StandsBelow set count occurrence
  pub first : (other : Occurrence) → StandsBelow set count other → (other ≡ occurrence) ⊎ IsTrue (precedes occurrence other)

-- the first one, and none where there is none
abbrev pub IsFirstBelow : RuleSet → ℕ → Option Placed → Type 0
IsFirstBelow set count None = (other : Occurrence) → ¬ (StandsBelow set count other)
IsFirstBelow set count (Some found) = FirstBelow set count found.occurrence

-- the rule's first occurrence, where its save is 0
pub record FirstOfStandard (rule : Rule) (place : ℕ) (found : Placed) : Type 0 where
  pub is : found ≡ record { place = place; occurrence = record { rule = rule; year = found.occurrence.year } }
  pub occurs : OccursIn rule found.occurrence.year
  pub standard : rule.save ≡ pos 0
  pub first : (year : ℤ) → OccursIn rule year → found.occurrence.year ≤ℤ year

-- and none where it has another save, or no occurrence
abbrev pub IsFirstOfStandard : Rule → ℕ → Option Placed → Type 0
IsFirstOfStandard rule place None = rule.save ≡ pos 0 → (year : ℤ) → ¬ (OccursIn rule year)
IsFirstOfStandard rule place (Some found) = FirstOfStandard rule place found
