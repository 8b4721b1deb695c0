-- The last occurrence before a mark, and the first one after it: of one rule, of the rules of a set from a
-- place on, and of a whole set.
use Rattle.std.specs.Prelude.{◌≡◌, if◌then◌else◌, ℕ, ◌≤◌, ◌⊎◌, ℤ, pos, neg_ℤ, ◌+ℤ◌, ◌-ℤ◌, ◌≤ℤ◌, ◌<ℤ◌, Option, Some, None, false, IsTrue, slice_get}
use Rattle.tz_types.specs.declared.limit.TheConstants.{LAST_RULE_YEAR}
use Rattle.tz_types.specs.declared.rule.Rule.{Rule}
use Rattle.tz_types.specs.declared.rule_set.RuleSet.{RuleSet}
use Rattle.tz_specs.specs.Occurrence.{Occurrence, nominal_of, precedes}
use Rattle.tz_specs.specs.Standing.{IsOccurrence}
use Rattle.tz_specs.specs.Effect.{IsFirst, IsPrevious}
use Rattle.tz_rules.specs.declared.mark.Mark.{Mark}
use Rattle.tz_rules.specs.declared.placed.Placed.{Placed}
use Rattle.tz_rules.specs.Occurs.{OccursIn}
use Rattle.tz_rules.specs.Placed.{StandsIn}
use Rattle.tz_rules.specs.Mark.{is_before, is_after}

-- the rule in a year
abbrev pub in_year : Rule → ℤ → Occurrence
in_year rule year = record { rule = rule; year = year }

-- ---- the years of a rule from one year on, and up to one
pub record IsFirstYear (rule : Rule) (since first : ℤ) : Type 0 where
  pub from : rule.from ≤ℤ first
  pub since_on : since ≤ℤ first
  pub low : neg_ℤ (pos LAST_RULE_YEAR) ≤ℤ first
  pub least : (year : ℤ) → OccursIn rule year → since ≤ℤ year → first ≤ℤ year

pub record IsLastYear (rule : Rule) (through last : ℤ) : Type 0 where
  pub to : last ≤ℤ rule.to
  pub up_to : last ≤ℤ through
  pub high : last ≤ℤ pos LAST_RULE_YEAR
  pub greatest : (year : ℤ) → OccursIn rule year → year ≤ℤ through → year ≤ℤ last

-- how many years there are from the first through the last
pub record IsYearCount (first last : ℤ) (count : ℕ) : Type 0 where
  pub some : first ≤ℤ last → pos count ≡ ((last -ℤ first) +ℤ pos 1)
  pub none : last <ℤ first → count ≡ 0

-- ---- of one rule, which stands at that place of its set
pub record LastOfRule (rule : Rule) (place : ℕ) (mark : Mark) (found : Placed) : Type 0 where
  pub is : found ≡ record { place = place; occurrence = in_year rule found.occurrence.year }
  pub occurs : OccursIn rule found.occurrence.year
  pub before : IsTrue (is_before mark (in_year rule found.occurrence.year))
  pub last : (year : ℤ) → OccursIn rule year → found.occurrence.year <ℤ year → is_before mark (in_year rule year) ≡ false

-- the last one before the mark, or none where there is none from a year on
abbrev pub IsLastOfRule : Rule → ℕ → ℤ → Mark → Option Placed → Type 0
IsLastOfRule rule place since mark None =
    (year : ℤ) → OccursIn rule year → since ≤ℤ year → is_before mark (in_year rule year) ≡ false
IsLastOfRule rule place since mark (Some found) = LastOfRule rule place mark found

pub record FirstOfRule (rule : Rule) (place : ℕ) (mark : Mark) (found : Placed) : Type 0 where
  pub is : found ≡ record { place = place; occurrence = in_year rule found.occurrence.year }
  pub occurs : OccursIn rule found.occurrence.year
  pub after : IsTrue (is_after mark (in_year rule found.occurrence.year))
  pub first : (year : ℤ) → OccursIn rule year → year <ℤ found.occurrence.year → is_after mark (in_year rule year) ≡ false

-- the first one after the mark, or none where there is none up to a year
abbrev pub IsFirstOfRule : Rule → ℕ → ℤ → Mark → Option Placed → Type 0
IsFirstOfRule rule place through mark None =
    (year : ℤ) → OccursIn rule year → year ≤ℤ through → is_after mark (in_year rule year) ≡ false
IsFirstOfRule rule place through mark (Some found) = FirstOfRule rule place mark found

-- ---- of the rules of a set from a place on
pub record LastFrom (set : RuleSet) (mark : Mark) (from : ℕ) (found : Placed) : Type 0 where
  pub stands : StandsIn set found
  pub before : IsTrue (is_before mark found.occurrence)
  pub last : (place : ℕ) (rule : Rule) (year : ℤ) → from ≤ place → slice_get set.rules place ≡ Some rule → OccursIn rule year → IsTrue (is_before mark (in_year rule year)) → precedes found.occurrence (in_year rule year) ≡ false

abbrev pub IsLastFrom : RuleSet → Mark → ℕ → Option Placed → Type 0
IsLastFrom set mark from None =
    (place : ℕ) (rule : Rule) (year : ℤ) → from ≤ place → slice_get set.rules place ≡ Some rule → OccursIn rule year → is_before mark (in_year rule year) ≡ false
IsLastFrom set mark from (Some found) = LastFrom set mark from found

pub record FirstFrom (set : RuleSet) (mark : Mark) (from : ℕ) (found : Placed) : Type 0 where
  pub stands : StandsIn set found
  pub after : IsTrue (is_after mark found.occurrence)
  pub first : (place : ℕ) (rule : Rule) (year : ℤ) → from ≤ place → slice_get set.rules place ≡ Some rule → OccursIn rule year → IsTrue (is_after mark (in_year rule year)) → precedes (in_year rule year) found.occurrence ≡ false

abbrev pub IsFirstFrom : RuleSet → Mark → ℕ → Option Placed → Type 0
IsFirstFrom set mark from None =
    (place : ℕ) (rule : Rule) (year : ℤ) → from ≤ place → slice_get set.rules place ≡ Some rule → OccursIn rule year → is_after mark (in_year rule year) ≡ false
IsFirstFrom set mark from (Some found) = FirstFrom set mark from found

-- the later of two, and the earlier, where there may be no other
abbrev pub later_of : Option Placed → Placed → Placed
later_of None found = found
later_of (Some other) found = if precedes other.occurrence found.occurrence then found else other

abbrev pub earlier_of : Option Placed → Placed → Placed
earlier_of None found = found
earlier_of (Some other) found = if precedes found.occurrence other.occurrence then found else other

-- the first year in which an occurrence may come later than this one, and the last in which one may come earlier
abbrev pub since_of : Option Placed → ℤ
since_of None = neg_ℤ (pos LAST_RULE_YEAR)
since_of (Some other) = other.occurrence.year -ℤ pos 1

abbrev pub through_of : Option Placed → ℤ
through_of None = pos LAST_RULE_YEAR
through_of (Some other) = other.occurrence.year +ℤ pos 1

-- ---- of a set
pub record LastBefore (set : RuleSet) (mark : Mark) (found : Placed) : Type 0 where
  pub stands : StandsIn set found
  pub is : IsOccurrence set found.occurrence
  pub before : IsTrue (is_before mark found.occurrence)
  pub last : (other : Occurrence) → IsOccurrence set other → IsTrue (is_before mark other) → (other ≡ found.occurrence) ⊎ IsTrue (precedes other found.occurrence)

-- the last occurrence before the mark, and none where no occurrence is before it
abbrev pub IsLastBefore : RuleSet → Mark → Option Placed → Type 0
IsLastBefore set mark None = (other : Occurrence) → IsOccurrence set other → is_before mark other ≡ false
IsLastBefore set mark (Some found) = LastBefore set mark found

pub record FirstAfter (set : RuleSet) (mark : Mark) (found : Placed) : Type 0 where
  pub stands : StandsIn set found
  pub is : IsOccurrence set found.occurrence
  pub after : IsTrue (is_after mark found.occurrence)
  pub first : (other : Occurrence) → IsOccurrence set other → IsTrue (is_after mark other) → (other ≡ found.occurrence) ⊎ IsTrue (precedes found.occurrence other)

-- the first occurrence after the mark, and none where no occurrence is after it
abbrev pub IsFirstAfter : RuleSet → Mark → Option Placed → Type 0
IsFirstAfter set mark None = (other : Occurrence) → IsOccurrence set other → is_after mark other ≡ false
IsFirstAfter set mark (Some found) = FirstAfter set mark found

pub record LastBy (set : RuleSet) (second : ℤ) (found : Placed) : Type 0 where
  pub stands : StandsIn set found
  pub is : IsOccurrence set found.occurrence
  pub by : nominal_of found.occurrence ≤ℤ second
  pub last : (other : Occurrence) → IsOccurrence set other → nominal_of other ≤ℤ second → (other ≡ found.occurrence) ⊎ IsTrue (precedes other found.occurrence)

-- the last occurrence at or before a nominal second, and none where each one is later
abbrev pub IsLastBy : RuleSet → ℤ → Option Placed → Type 0
IsLastBy set second None = (other : Occurrence) → IsOccurrence set other → second <ℤ nominal_of other
IsLastBy set second (Some found) = LastBy set second found

-- the occurrence right before another, and none where that is the first
abbrev pub IsPreviousOf : RuleSet → Occurrence → Option Placed → Type 0
IsPreviousOf set occurrence None = IsFirst set occurrence
IsPreviousOf set occurrence (Some found) = StandsIn set found × IsPrevious set found.occurrence occurrence

-- the occurrence right after another, and none where that is the last
abbrev pub IsNextOf : RuleSet → Occurrence → Option Placed → Type 0
IsNextOf set occurrence None = (other : Occurrence) → IsOccurrence set other → precedes occurrence other ≡ false
IsNextOf set occurrence (Some found) =
    StandsIn set found × IsOccurrence set found.occurrence × IsPrevious set occurrence found.occurrence
