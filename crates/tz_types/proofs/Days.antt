-- What the tests on days mean.
use Rattle.std.proofs.Common.{ℕ, ◌≤◌, IsTrue, ℤ, pos, neg_ℤ, ◌+ℤ◌, ◌*ℤ◌, ◌≤ℤ◌, ◌<ℤ◌, refl, arith}
use Rattle.std.specs.Int.{IsInRange}
use Rattle.std.proofs.lemmas.Bool.Decides.{nat_tests}
use Rattle.jiff_core.proofs.CalendarLemmas.{days_in_month_bounds, days_in_year_bounds, day_count-later_year, day_count-next_year, day_count-year_bounds, day_count-day_of_year, day_of_year_bound, days_from_civil-day_count}
use Rattle.jiff_core.proofs.SignedLemmas.{signed_arith}
use Rattle.jiff_core.specs.Calendar.{IsYear, IsBetween, days_in_month, days_from_civil}
use Rattle.tz_types.specs.Year.{IsRuleYear}
use Rattle.tz_types.specs.declared.calendar.Month.{Month}
use Rattle.tz_types.specs.Calendar.{is_day_up_to, longest_month, month_number, LiesInYear}

pub day_up_to : (last day : ℕ) → IsTrue (is_day_up_to last day) → (1 ≤ day) × (day ≤ last)
day_up_to last day h = grind (arith, nat_tests)

-- no month has more than 31 days
pub day_of_longest : (month : Month) (day : ℕ) → IsTrue (is_day_up_to (longest_month month) day) → (1 ≤ day) × (day ≤ 31)
day_of_longest month day h =
    omega (arith, day_up_to (longest_month month) day h, days_in_month_bounds (pos 2000) (month_number month))

-- the days of the years -9998 to 9998
pub rule_year_days : (year : ℤ) (month day : ℕ) → IsRuleYear year → IsInRange 1 12 month → IsInRange 1 (days_in_month year month) day → IsBetween (neg_ℤ (pos 4_371_222)) (pos 2_932_531) (days_from_civil year month day)
rule_year_days year month day year_in month_in day_in =
    let is_year : IsYear year = (omega (arith, signed_arith), omega (arith, signed_arith)) in
    let first_year : IsYear (neg_ℤ (pos 9999)) = (omega (arith, signed_arith), omega (arith, signed_arith)) in
    let last_year : IsYear (pos 9999) = (omega (arith, signed_arith), omega (arith, signed_arith)) in
    let high = day_count-later_year year (pos 9999) (omega (arith, signed_arith)) (omega (arith, signed_arith)) in
    let low = day_count-later_year (neg_ℤ (pos 9999)) year (omega (arith, signed_arith)) (omega (arith, signed_arith)) in
    let before = day_count-year_bounds (neg_ℤ (pos 9999)) first_year in
    let after = day_count-year_bounds (pos 9999) last_year in
    let place = day_count-day_of_year year month day day_in.0 in
    let within = day_of_year_bound year month day (is_year, month_in, day_in) in
    let shortest = days_in_year_bounds (neg_ℤ (pos 9999)) in
    let also = days_in_year_bounds (pos 9999) in
    let number = days_from_civil-day_count year month day in
    (omega (arith, signed_arith), omega (arith, signed_arith))

-- a second of a day lies in the day's year
pub second_in_year : (year : ℤ) (month day : ℕ) (t : ℤ) → IsYear year → IsInRange 1 12 month → IsInRange 1 (days_in_month year month) day → (pos 86_400 *ℤ days_from_civil year month day) ≤ℤ t → t <ℤ ((pos 86_400 *ℤ days_from_civil year month day) +ℤ pos 86_400) → LiesInYear t year
second_in_year year month day t year_in month_in day_in from before =
    let place = day_count-day_of_year year month day day_in.0 in
    let within = day_of_year_bound year month day (year_in, month_in, day_in) in
    let next = day_count-next_year year (year +ℤ pos 1) (omega (arith, signed_arith)) refl in
    let here = days_from_civil-day_count year month day in
    let first = days_from_civil-day_count year 1 1 in
    let later = days_from_civil-day_count (year +ℤ pos 1) 1 1 in
    record { from = omega (arith, signed_arith); before = omega (arith, signed_arith) }
