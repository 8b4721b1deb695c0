-- When occurrences of a rule set take effect, and which one is in effect, told without their numbers.
use Rattle.std.specs.Prelude.{◌≡◌, ◌⊎◌, false, ℤ, pos, ◌-ℤ◌, ◌≤ℤ◌, ◌<ℤ◌, IsTrue}
use Rattle.tz_types.specs.declared.rule_set.RuleSet.{RuleSet}
use Rattle.tz_types.specs.declared.moment.Moment.{Moment}
use Rattle.tz_specs.specs.Occurrence.{Occurrence, nominal_second, nominal_of, precedes}
use Rattle.tz_specs.specs.State.{shift}
use Rattle.tz_specs.specs.Standing.{IsOccurrence}

-- no occurrence of the set precedes this one
abbrev pub IsFirst : RuleSet → Occurrence → Type 0
IsFirst set occurrence = (other : Occurrence) → IsOccurrence set other → precedes other occurrence ≡ false

-- the last of the occurrences that precede this one
pub record IsPrevious (set : RuleSet) (previous occurrence : Occurrence) : Type 0 where
  pub is : IsOccurrence set previous
  pub before : IsTrue (precedes previous occurrence)
  pub last : (other : Occurrence) → IsOccurrence set other → IsTrue (precedes other occurrence) → (other ≡ previous) ⊎ IsTrue (precedes other previous)

-- the save in force right before an occurrence: that of the one before it, and 0 before the first
abbrev pub HasSaveBefore : RuleSet → Occurrence → ℤ → Type 0
HasSaveBefore set occurrence save =
    ((save ≡ pos 0) × IsFirst set occurrence)
    ⊎ ((previous : Occurrence) × IsPrevious set previous occurrence × (save ≡ previous.rule.save))

-- the instant of an occurrence: its time, read on the clock kept right before it
pub record ComesAt (set : RuleSet) (stdoff : ℤ) (occurrence : Occurrence) (instant : ℤ) : Type 0 where
  pub save : ℤ
  pub save_before : HasSaveBefore set occurrence save
  pub on_its_clock : instant ≡ (nominal_of occurrence -ℤ shift occurrence.rule.moment.kind stdoff save)

-- an occurrence that has come by t, where no later one has
pub record IsInEffect (set : RuleSet) (stdoff t : ℤ) (occurrence : Occurrence) : Type 0 where
  pub is : IsOccurrence set occurrence
  pub instant : ℤ
  pub comes : ComesAt set stdoff occurrence instant
  pub come : instant ≤ℤ t
  pub none_later : (other : Occurrence) (its_instant : ℤ) → IsOccurrence set other → IsTrue (precedes occurrence other) → ComesAt set stdoff other its_instant → t <ℤ its_instant

-- no occurrence has come by t
abbrev pub NoneInEffect : RuleSet → ℤ → ℤ → Type 0
NoneInEffect set stdoff t =
    (other : Occurrence) (its_instant : ℤ) → IsOccurrence set other → ComesAt set stdoff other its_instant → t <ℤ its_instant

-- the first occurrence with save 0, whose letters stand before any is in effect
pub record IsFirstStandard (set : RuleSet) (occurrence : Occurrence) : Type 0 where
  pub is : IsOccurrence set occurrence
  pub standard : occurrence.rule.save ≡ pos 0
  pub first : (other : Occurrence) → IsOccurrence set other → other.rule.save ≡ pos 0 → (other ≡ occurrence) ⊎ IsTrue (precedes occurrence other)

-- an UNTIL read while a save is in force
abbrev pub until_with : ℤ → ℤ → Moment → ℤ → ℤ
until_with stdoff year moment save = nominal_second year moment -ℤ shift moment.kind stdoff save

-- the occurrence right after this one, if there is one, doesn't come before the instant
abbrev pub NextNotBefore : RuleSet → ℤ → Occurrence → ℤ → Type 0
NextNotBefore set stdoff occurrence instant =
    (next : Occurrence) (its_instant : ℤ) → IsOccurrence set next → IsPrevious set occurrence next → ComesAt set stdoff next its_instant → instant ≤ℤ its_instant

-- there is an occurrence right after this one, and it comes before the instant
pub record NextBefore (set : RuleSet) (stdoff : ℤ) (occurrence : Occurrence) (instant : ℤ) : Type 0 where
  pub next : Occurrence
  pub its_instant : ℤ
  pub is : IsOccurrence set next
  pub previous : IsPrevious set occurrence next
  pub comes : ComesAt set stdoff next its_instant
  pub before : its_instant <ℤ instant

-- the first occurrence, if there is one, doesn't come before the instant
abbrev pub FirstNotBefore : RuleSet → ℤ → ℤ → Type 0
FirstNotBefore set stdoff instant =
    (first : Occurrence) (its_instant : ℤ) → IsOccurrence set first → IsFirst set first → ComesAt set stdoff first its_instant → instant ≤ℤ its_instant

-- there is a first occurrence, and it comes before the instant
pub record FirstBefore (set : RuleSet) (stdoff instant : ℤ) : Type 0 where
  pub first : Occurrence
  pub its_instant : ℤ
  pub is : IsOccurrence set first
  pub is_first : IsFirst set first
  pub comes : ComesAt set stdoff first its_instant
  pub before : its_instant <ℤ instant

-- the occurrence in effect at an UNTIL: the first whose successor doesn't come before the UNTIL as its own save tells it
pub record IsUntilUnder (set : RuleSet) (stdoff year : ℤ) (moment : Moment) (occurrence : Occurrence) : Type 0 where
  pub is : IsOccurrence set occurrence
  pub reaches : NextNotBefore set stdoff occurrence (until_with stdoff year moment occurrence.rule.save)
  pub passed : (earlier : Occurrence) → IsOccurrence set earlier → IsTrue (precedes earlier occurrence) → NextBefore set stdoff earlier (until_with stdoff year moment earlier.rule.save)
  pub passed_first : FirstBefore set stdoff (until_with stdoff year moment (pos 0))
