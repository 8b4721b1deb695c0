-- What comes next, and how far a search for it has come.
use Rattle.std.specs.Prelude.{◌≡◌, ℕ, ◌<◌, ◌||◌, ◌&&◌, if◌then◌else◌, ℤ, pos, neg_ℤ, ◌+ℤ◌, ◌-ℤ◌, ◌≤ℤ◌, Bool, false, IsTrue, int_lt, Option, Some, None, slice_get}
use Rattle.std.specs.Ordering.{int_eq}
use Rattle.tz_types.specs.declared.rule.Rule.{Rule}
use Rattle.tz_types.specs.declared.rule_set.RuleSet.{RuleSet}
use Rattle.tz_specs.specs.Occurrence.{Occurrence, nominal_of, precedes}
use Rattle.tz_specs.specs.State.{shift}
use Rattle.tz_specs.specs.Standing.{IsOccurrence}
use Rattle.tz_specs.specs.Effect.{ComesAt, IsInEffect}
use Rattle.tz_specs.specs.Around.{IsToCome, IsNextChange}
use Rattle.tz_rules.specs.declared.mark.Mark.{Mark}
use Rattle.tz_rules.specs.declared.next_change.Coming.{Coming}
use Rattle.tz_rules.specs.declared.next_change.Window.{Window}
use Rattle.tz_rules.specs.declared.shift.TheConstants.{MOST_SHIFT}
use Rattle.tz_rules.specs.declared.placed.Placed.{Placed}
use Rattle.tz_rules.specs.Occurs.{OccursIn}
use Rattle.tz_rules.specs.Placed.{StandsIn}
use Rattle.tz_rules.specs.Mark.{is_after, IsLatestYear, IsEarliestYear}
use Rattle.tz_rules.specs.Search.{in_year, FirstAfter}
use Rattle.tz_rules.specs.InEffect.{saved_by}

-- the mark after which everything is to come: that of what is in effect, and where nothing is, one before all
abbrev pub mark_from : Option Placed → Mark
mark_from None = record { second = neg_ℤ (pos 377_678_000_000); line = 0 }
mark_from (Some found) = record { second = nominal_of found.occurrence; line = found.occurrence.rule.line }

-- a window reaches from a mark to four days after the first occurrence after it
pub record IsWindow (set : RuleSet) (window : Window) : Type 0 where
  pub earliest : IsEarliestYear window.mark.second window.earliest
  pub latest : IsLatestYear window.limit window.latest
  pub from : (other : Occurrence) → IsOccurrence set other → IsTrue (is_after window.mark other) → (window.limit -ℤ (MOST_SHIFT +ℤ MOST_SHIFT)) ≤ℤ nominal_of other

-- the soonest occurrence after the mark, and of those that come at one instant the last, of one that is known and of
-- the rules that stand before a place
pub record IsSoonest (set : RuleSet) (stdoff : ℤ) (window : Window) (before : ℕ) (coming : Coming) : Type 0 where
  pub stands : StandsIn set coming.placed
  pub after : IsTrue (is_after window.mark coming.placed.occurrence)
  pub comes : ComesAt set stdoff coming.placed.occurrence coming.at
  pub within : coming.at ≤ℤ (window.limit -ℤ MOST_SHIFT)
  pub soonest : (place : ℕ) (rule : Rule) (year instant : ℤ) → place < before → slice_get set.rules place ≡ Some rule → OccursIn rule year → IsTrue (is_after window.mark (in_year rule year)) → ComesAt set stdoff (in_year rule year) instant → coming.at ≤ℤ instant
  pub last : (place : ℕ) (rule : Rule) (year instant : ℤ) → place < before → slice_get set.rules place ≡ Some rule → OccursIn rule year → IsTrue (is_after window.mark (in_year rule year)) → ComesAt set stdoff (in_year rule year) instant → instant ≡ coming.at → precedes coming.placed.occurrence (in_year rule year) ≡ false

-- the sooner of two, and of two that come at one instant the last
abbrev pub is_sooner : Coming → Coming → Bool
is_sooner found other =
    int_lt found.at other.at || (int_eq found.at other.at && precedes other.placed.occurrence found.placed.occurrence)

abbrev pub sooner_of : Coming → Coming → Coming
sooner_of other found = if is_sooner found other then found else other

-- the first occurrence after what is in effect, at its instant, or none where no occurrence is after it
abbrev pub IsFirstToCome : RuleSet → ℤ → Option Placed → Option Coming → Type 0
IsFirstToCome set stdoff state None = (other : Occurrence) → IsOccurrence set other → is_after (mark_from state) other ≡ false
IsFirstToCome set stdoff state (Some coming) =
    FirstAfter set (mark_from state) coming.placed × (coming.at ≡ (nominal_of coming.placed.occurrence -ℤ shift coming.placed.occurrence.rule.moment.kind stdoff (saved_by state)))

-- the next change after t, and what is in effect from it on
pub record IsNext (set : RuleSet) (stdoff t : ℤ) (coming : Coming) : Type 0 where
  pub stands : StandsIn set coming.placed
  pub change : IsNextChange set stdoff t coming.at
  pub in_effect : IsInEffect set stdoff coming.at coming.placed.occurrence
  pub comes : ComesAt set stdoff coming.placed.occurrence coming.at

-- the next change, and none where nothing is to come
abbrev pub IsNextAfter : RuleSet → ℤ → ℤ → Option Coming → Type 0
IsNextAfter set stdoff t None = (other : Occurrence) → ¬ (IsToCome set stdoff t other)
IsNextAfter set stdoff t (Some coming) = IsNext set stdoff t coming
