-- When a line of a zone ends, after zic(8), "Zone lines", UNTIL: read on the clock that the line itself keeps.
use Rattle.std.specs.Prelude.{ℕ, zero, suc, Bool, true, if◌then◌else◌, List, length, int_le, ℤ, pos, ◌-ℤ◌, Option, Some, None, slice_get}
use Rattle.tz_types.specs.declared.rule_set.RuleSet.{RuleSet}
use Rattle.tz_types.specs.declared.moment.Moment.{Moment}
use Rattle.tz_specs.specs.Occurrence.{Occurrence, nominal_second, occurrences}
use Rattle.tz_specs.specs.State.{shift, instants, in_force}

-- What a line's save follows: nothing, a fixed save, or the occurrences of a rule set.
pub data Following : Type 0 where
  Nothing : Following
  Fixed : ℤ → Bool → Following
  Rules : RuleSet → Following

-- the least number from 0 that passes, up to the last
abbrev pub least : (ℕ → Bool) → ℕ → ℕ
least passes zero = zero
least passes (suc last) = if passes (least passes last) then least passes last else suc last

-- The instant of an UNTIL while the occurrence with that number is in effect.
abbrev pub until_while : List Occurrence → ℤ → ℤ → Moment → ℕ → ℤ
until_while list stdoff year moment number =
    nominal_second year moment -ℤ shift moment.kind stdoff (in_force list number).save

-- There is no later occurrence, or the next one takes effect at that instant or after it.
abbrev pub reaches_until : List Occurrence → ℤ → ℤ → Moment → ℕ → Bool
reaches_until list stdoff year moment number = not_before (slice_get (instants stdoff list) number)
  where
    not_before : Option ℤ → Bool
    not_before None = true
    not_before (Some next) = int_le (until_while list stdoff year moment number) next

-- The instant of an UNTIL: the one while the first occurrence is in effect whose successor doesn't come before it.
unfoldable pub until_instant : Following → ℤ → ℤ → Moment → ℤ
until_instant Nothing stdoff year moment =
    nominal_second year moment -ℤ shift moment.kind stdoff (pos 0)
until_instant (Fixed save daylight) stdoff year moment =
    nominal_second year moment -ℤ shift moment.kind stdoff save
until_instant (Rules set) stdoff year moment =
    let list = occurrences set in
    until_while list stdoff year moment (least (reaches_until list stdoff year moment) (length list))
