-- Lines without a rule set are one range, and the two ends of time.
use Rattle.std.proofs.Common.{◌≡◌, ℤ, pos, neg_ℤ, ◌*ℤ◌, Bool, [], ◌∷◌, arith}
use Rattle.jiff_core.specs.Calendar.{days_from_civil}
use Rattle.jiff_core.proofs.CalendarLemmas.{days_from_civil-day_count, day_count-min, day_count-end}
use Rattle.jiff_core.proofs.SignedLemmas.{signed_arith}
use Rattle.tz_specs.specs.Until.{Nothing, Fixed}
use Rattle.tz_specs.specs.Expansion.{first_instant, end_of_time, Period, range_of, ranges_of}

-- a line whose save follows nothing is one range
pub ranges_of_plain : (period : Period) → period.following ≡ Nothing → ranges_of period ≡ range_of period period.start period.finish ∷ []
unfolding ranges_of
ranges_of_plain period plain = rw plain

-- and so is a line whose save is fixed
pub ranges_of_fixed : (period : Period) (save : ℤ) (daylight : Bool) → period.following ≡ Fixed save daylight → ranges_of period ≡ range_of period period.start period.finish ∷ []
unfolding ranges_of
ranges_of_fixed period save daylight fixed = rw fixed

-- time runs from the first midnight of -9999 to that of 10000
pub begin_of_time-midnight : first_instant ≡ pos 86_400 *ℤ days_from_civil (neg_ℤ (pos 9999)) 1 1
begin_of_time-midnight =
    omega (arith, signed_arith, days_from_civil-day_count (neg_ℤ (pos 9999)) 1 1, day_count-min)

pub end_of_time-midnight : end_of_time ≡ pos 86_400 *ℤ days_from_civil (pos 10_000) 1 1
end_of_time-midnight =
    omega (arith, signed_arith, days_from_civil-day_count (pos 10_000) 1 1, day_count-end)
