-- Amounts of seconds, as texts write them.
use Rattle.std.specs.Prelude.{Bool, nat_le, unsigned_abs, ℤ}
use Rattle.jiff_core.specs.Calendar.{IsWithin}
use Rattle.tz_types.specs.declared.limit.TheConstants.{LONGEST_SHIFT, LONGEST_TIME}

-- up to 999 hours, 59 minutes and 60.999.. seconds, rounded, with either sign
abbrev pub IsTimeOfDay : ℤ → Type 0
IsTimeOfDay seconds = IsWithin LONGEST_TIME seconds

-- a standard offset or a save: up to a whole day, with either sign
abbrev pub IsShift : ℤ → Type 0
IsShift seconds = IsWithin LONGEST_SHIFT seconds

-- the same as a test
abbrev pub is_shift : ℤ → Bool
is_shift seconds = nat_le (unsigned_abs seconds) LONGEST_SHIFT
