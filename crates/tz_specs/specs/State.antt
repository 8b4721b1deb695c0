-- When occurrences take effect, and which one is in effect at an instant.
-- Occurrences are numbered from 1. Number 0 stands for the time before any of them is in effect.
use Rattle.std.specs.Prelude.{ℕ, zero, suc, Bool, false, if◌then◌else◌, List, [], ◌∷◌, length, find, int_le, ℤ, pos, ◌+ℤ◌, ◌-ℤ◌, Option, Some, None, slice_get}
use Rattle.std.specs.Ordering.{int_eq}
use Rattle.tz_types.specs.declared.moment.AtKind.{AtKind}
use Rattle.tz_types.specs.declared.moment.AtKind.TheVariants as kinds
use Rattle.tz_specs.specs.Occurrence.{Occurrence, nominal_of}

-- how far the clock that a time is read from is ahead of universal time
abbrev pub shift : AtKind → ℤ → ℤ → ℤ
shift kinds.Universal stdoff save = pos 0
shift kinds.Standard stdoff save = stdoff
shift kinds.Wall stdoff save = stdoff +ℤ save

-- The instants at which the occurrences take effect, in the order of their numbers. Local time before an
-- occurrence has the save of the occurrence before it, and before the first one the save given.
abbrev pub instants_from : ℤ → ℤ → List Occurrence → List ℤ
instants_from stdoff save [] = []
instants_from stdoff save (occurrence ∷ later) =
    (nominal_of occurrence -ℤ shift occurrence.rule.moment.kind stdoff save)
    ∷ instants_from stdoff occurrence.rule.save later

-- the same where no save is in force before the first
abbrev pub instants : ℤ → List Occurrence → List ℤ
instants stdoff occurrences = instants_from stdoff (pos 0) occurrences

-- the greatest number from 1 to the last that passes, and 0 where none does
abbrev pub greatest : (ℕ → Bool) → ℕ → ℕ
greatest passes zero = zero
greatest passes (suc number) = if passes (suc number) then suc number else greatest passes number

-- the instant with that number is at or before t
abbrev pub has_come : List ℤ → ℤ → ℕ → Bool
has_come instants t zero = false
has_come instants t (suc place) = is_at_or_before (slice_get instants place)
  where
    is_at_or_before : Option ℤ → Bool
    is_at_or_before None = false
    is_at_or_before (Some instant) = int_le instant t

-- the state at t: the greatest number whose instant is at or before t, and 0 where there is none
unfoldable pub state_at : List ℤ → ℤ → ℕ
state_at instants t = greatest (has_come instants t) (length instants)

-- what is in force: the save in seconds, whether the time is daylight time, and the letters
pub record InForce : Type 0 where
  pub save : ℤ
  pub daylight : Bool
  pub letters : List ℕ

-- what an occurrence puts in force
abbrev pub put_in_force : Occurrence → InForce
put_in_force occurrence =
    record { save = occurrence.rule.save; daylight = occurrence.rule.daylight; letters = occurrence.rule.letters }

-- the letters of the first occurrence with save 0, or none
abbrev pub first_letters : List Occurrence → List ℕ
first_letters occurrences = letters_of (find (λ occurrence. int_eq occurrence.rule.save (pos 0)) occurrences)
  where
    letters_of : Option Occurrence → List ℕ
    letters_of None = []
    letters_of (Some occurrence) = occurrence.rule.letters

-- what is in force before the first occurrence is: standard time without a save
abbrev pub before_first : List Occurrence → InForce
before_first occurrences = record { save = pos 0; daylight = false; letters = first_letters occurrences }

-- what is in force while the occurrence with that number is in effect
unfoldable pub in_force : List Occurrence → ℕ → InForce
in_force occurrences zero = before_first occurrences
in_force occurrences (suc place) = by_place (slice_get occurrences place)
  where
    by_place : Option Occurrence → InForce
    by_place None = before_first occurrences
    by_place (Some occurrence) = put_in_force occurrence
