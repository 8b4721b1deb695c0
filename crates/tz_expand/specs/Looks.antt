-- Which occurrences of a rule set are looked at for a stretch of time: of each rule those in the years near the
-- stretch, and beside them its last two before these years, or its first after them.
use Rattle.std.specs.Prelude.{◌≡◌, ℕ, zero, suc, ◌+◌, if◌then◌else◌, List, [], ◌∷◌, ◌++◌, flat_map, ℤ, pos, neg_ℤ, ◌+ℤ◌, ◌-ℤ◌, ◌≤ℤ◌, int_lt, unsigned_abs, Some, slice_get}
use Rattle.std.specs.Int.{int_min, int_max}
use Rattle.std.specs.List.Sorted.{IsPermutation, IsSortedBy}
use Rattle.tz_types.specs.declared.limit.TheConstants.{LAST_RULE_YEAR}
use Rattle.tz_types.specs.declared.rule.Rule.{Rule}
use Rattle.tz_types.specs.declared.rule_set.RuleSet.{RuleSet}
use Rattle.tz_types.specs.Calendar.{LiesInYear}
use Rattle.tz_specs.specs.Occurrence.{Occurrence, precedes}
use Rattle.tz_specs.specs.Until.{Rules}
use Rattle.tz_specs.specs.Expansion.{Period}

-- the years in which a rule occurs: from its FROM to its TO, and from -LAST_RULE_YEAR to LAST_RULE_YEAR
abbrev pub since : Rule → ℤ
since rule = int_max rule.from (neg_ℤ (pos LAST_RULE_YEAR))

abbrev pub through : Rule → ℤ
through rule = int_min rule.to (pos LAST_RULE_YEAR)

-- the first and the last year of a rule that are looked at, where these years are near the stretch
abbrev pub first_look : Rule → ℤ → ℤ
first_look rule first = int_max (since rule) (int_min first (through rule -ℤ pos 1))

abbrev pub last_look : Rule → ℤ → ℤ
last_look rule last = int_min (through rule) (int_max last (since rule))

-- how many years there are from one through another
abbrev pub years_through : ℤ → ℤ → ℕ
years_through first last = if int_lt last first then 0 else unsigned_abs (last -ℤ first) + 1

-- a rule in so many years from one on
abbrev pub looks_from : Rule → ℤ → ℕ → List Occurrence
looks_from rule first zero = []
looks_from rule first (suc count) =
    looks_from rule first count ++ record { rule = rule; year = first +ℤ pos count } ∷ []

abbrev pub looks_count : ℤ → ℤ → Rule → ℕ
looks_count first last rule = years_through (first_look rule first) (last_look rule last)

abbrev pub looks_of : ℤ → ℤ → Rule → List Occurrence
looks_of first last rule = looks_from rule (first_look rule first) (looks_count first last rule)

abbrev pub looks_of_set : ℤ → ℤ → RuleSet → List Occurrence
looks_of_set first last set = flat_map (looks_of first last) set.rules

-- the list has the same occurrences, none after one that it precedes
pub record AreInOrder (found list : List Occurrence) : Type 0 where
  pub same : IsPermutation found list
  pub sorted : IsSortedBy precedes list

-- years that stretches have near them
pub record IsSpan (first last : ℤ) : Type 0 where
  pub low : neg_ℤ (pos 10_002) ≤ℤ first
  pub ordered : (first +ℤ pos 5) ≤ℤ last
  pub high : last ≤ℤ pos 10_001

-- from three years before the one in which the stretch begins, through two years after the one in which it ends
pub record AreYearsNear (from to first last : ℤ) : Type 0 where
  pub begins : LiesInYear from (first +ℤ pos 3)
  pub ends : LiesInYear (to -ℤ pos 1) (last -ℤ pos 2)

-- the looks of a set near the stretch, in order
pub record AreLooksNear (set : RuleSet) (from to : ℤ) (list : List Occurrence) : Type 0 where
  pub first : ℤ
  pub last : ℤ
  pub span : IsSpan first last
  pub near : AreYearsNear from to first last
  pub in_order : AreInOrder (looks_of_set first last set) list

-- the save that is in force before the place, where that of the one before it is, and none before the first
abbrev pub IsSaveBefore : List Occurrence → ℕ → ℤ → Type 0
IsSaveBefore list zero save = save ≡ pos 0
IsSaveBefore list (suc place) save =
    (previous : Occurrence) × (slice_get list place ≡ Some previous) × (save ≡ previous.rule.save)

-- the looks for a line that follows a set, near what the line and the stretch share
pub record AreLooksOf (period : Period) (from to : ℤ) (list : List Occurrence) : Type 0 where
  pub set : RuleSet
  pub follows : period.following ≡ Rules set
  pub looked : AreLooksNear set (int_max from period.start) (int_min to period.finish) list
