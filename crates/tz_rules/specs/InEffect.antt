-- Which occurrence is in effect, and how far a search for it has come.
use Rattle.std.specs.Prelude.{◌≡◌, ℕ, ◌<◌, ℤ, pos, neg_ℤ, ◌-ℤ◌, ◌≤ℤ◌, ◌<ℤ◌, Bool, true, false, int_le, Option, Some, None, slice_get}
use Rattle.jiff_core.specs.Calendar.{IsBetween}
use Rattle.tz_types.specs.declared.rule.Rule.{Rule}
use Rattle.tz_types.specs.declared.rule_set.RuleSet.{RuleSet}
use Rattle.tz_specs.specs.Occurrence.{Occurrence, nominal_of, precedes}
use Rattle.tz_specs.specs.Standing.{IsOccurrence}
use Rattle.tz_specs.specs.Effect.{ComesAt, IsInEffect, NoneInEffect}
use Rattle.tz_rules.specs.declared.shift.TheConstants.{MOST_SHIFT}
use Rattle.tz_rules.specs.declared.placed.Placed.{Placed}
use Rattle.tz_rules.specs.Occurs.{OccursIn}
use Rattle.tz_rules.specs.Placed.{StandsIn}
use Rattle.tz_rules.specs.Search.{in_year}

-- all instants at which occurrences come lie strictly between these two
abbrev pub IsNearTime : ℤ → Type 0
IsNearTime t = IsBetween (neg_ℤ (pos 377_678_000_000)) (pos 253_378_000_000) t

-- an instant near time by which the same occurrences have come
pub record IsAsGoodAs (t near : ℤ) : Type 0 where
  pub is_near : IsNearTime near
  pub come : (instant : ℤ) → neg_ℤ (pos 377_678_000_000) <ℤ instant → instant ≤ℤ near → instant ≤ℤ t
  pub to_come : (instant : ℤ) → instant <ℤ pos 253_378_000_000 → near <ℤ instant → t <ℤ instant

-- the save that an occurrence puts in force, and 0 before the first
abbrev pub saved_by : Option Placed → ℤ
saved_by None = pos 0
saved_by (Some previous) = previous.occurrence.rule.save

-- what is in effect at t
abbrev pub IsState : RuleSet → ℤ → ℤ → Option Placed → Type 0
IsState set stdoff t None = NoneInEffect set stdoff t
IsState set stdoff t (Some found) = StandsIn set found × IsInEffect set stdoff t found.occurrence

-- an occurrence has come by t
pub record HasCome (set : RuleSet) (stdoff t : ℤ) (occurrence : Occurrence) : Type 0 where
  pub instant : ℤ
  pub comes : ComesAt set stdoff occurrence instant
  pub come : instant ≤ℤ t

-- what comes two days before t on its own clock has come, or nothing is there
abbrev pub is_settled : ℤ → Option Placed → Bool
is_settled t None = true
is_settled t (Some found) = int_le (nominal_of found.occurrence) (t -ℤ MOST_SHIFT)

-- the occurrence comes after the one found so far, where there is one
abbrev pub follows : Option Placed → Placed → Bool
follows None found = true
follows (Some other) found = precedes other.occurrence found.occurrence

-- the last occurrence that has come, of those that come two days before t on their own clocks and of those of the
-- rules that stand before a place
pub record LastCome (set : RuleSet) (stdoff t : ℤ) (before : ℕ) (found : Placed) : Type 0 where
  pub stands : StandsIn set found
  pub come : HasCome set stdoff t found.occurrence
  pub settled : (other : Occurrence) → IsOccurrence set other → nominal_of other ≤ℤ (t -ℤ MOST_SHIFT) → precedes found.occurrence other ≡ false
  pub last : (place : ℕ) (rule : Rule) (year : ℤ) → place < before → slice_get set.rules place ≡ Some rule → OccursIn rule year → HasCome set stdoff t (in_year rule year) → precedes found.occurrence (in_year rule year) ≡ false

pub record NoneCome (set : RuleSet) (stdoff t : ℤ) (before : ℕ) : Type 0 where
  pub settled : (other : Occurrence) → IsOccurrence set other → (t -ℤ MOST_SHIFT) <ℤ nominal_of other
  pub none : (place : ℕ) (rule : Rule) (year : ℤ) → place < before → slice_get set.rules place ≡ Some rule → OccursIn rule year → ¬ (HasCome set stdoff t (in_year rule year))

abbrev pub IsLastCome : RuleSet → ℤ → ℤ → ℕ → Option Placed → Type 0
IsLastCome set stdoff t before None = NoneCome set stdoff t before
IsLastCome set stdoff t before (Some found) = LastCome set stdoff t before found

-- an occurrence near t that has come, and comes after the one found so far
pub record ComesLater (set : RuleSet) (stdoff t : ℤ) (last : Option Placed) (found : Placed) : Type 0 where
  pub near : (t -ℤ MOST_SHIFT) <ℤ nominal_of found.occurrence
  pub follows_it : follows last found ≡ true
  pub come : HasCome set stdoff t found.occurrence
