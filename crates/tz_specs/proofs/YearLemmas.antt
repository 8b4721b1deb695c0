-- The seconds of civil years.
use Rattle.std.proofs.Common.{◌≡◌, ℕ, zero, suc, ◌*◌, refl, arith, ℤ, pos, neg_ℤ, ◌+ℤ◌, ◌-ℤ◌, ◌<ℤ◌, ◌≤ℤ◌}
use Rattle.std.proofs.lemmas.Int.{by_lt_z}
use Rattle.jiff_core.specs.Calendar.{IsYear, days_in_year}
use Rattle.jiff_core.proofs.CalendarLemmas.{days_from_civil-day_count, day_count-next_year, day_count-later_year}
use Rattle.jiff_core.proofs.SignedLemmas.{signed_arith}
use Rattle.tz_types.specs.Calendar.{year_start, LiesInYear}
use Rattle.tz_specs.specs.CivilYear.{IsSecondOfYear}
use Rattle.tz_specs.specs.Expansion.{IsInstant, first_instant}
use Rattle.tz_specs.proofs.ExpansionLemmas.{begin_of_time-midnight, end_of_time-midnight}
use Rattle.tz_specs.proofs.OccurrenceLemmas.{natural_of}

-- the next year begins where the days of this one end
year_length : (year next : ℤ) → IsYear year → next ≡ (year +ℤ pos 1) → year_start next ≡ (year_start year +ℤ pos (86_400 * days_in_year year))
year_length year next within is =
    omega (arith, signed_arith, day_count-next_year year next (omega (arith, signed_arith, within)) is, days_from_civil-day_count year 1 1, days_from_civil-day_count next 1 1)

pub second_of_year : (t year : ℤ) → IsYear year → LiesInYear t year → IsSecondOfYear t year
second_of_year t year within lies =
    let length = year_length year (year +ℤ pos 1) within refl in
    let n = natural_of (t -ℤ year_start year) (omega (arith, signed_arith, lies.from)) in
    let is : pos n.0 ≡ (t -ℤ year_start year) = n.1 in
    (n.0, omega (arith, signed_arith, lies.before), omega (arith, signed_arith))

pub lies_of_second : (t year : ℤ) → IsYear year → IsSecondOfYear t year → LiesInYear t year
lies_of_second t year within second =
    let length = year_length year (year +ℤ pos 1) within refl in
    let low = second.1 in
    let is = second.2 in
    record { from = omega (arith, signed_arith); before = omega (arith, signed_arith) }

not_later : (t year later : ℤ) → IsYear year → year <ℤ later → LiesInYear t year → LiesInYear t later → ⊥
not_later t year later within below here there =
    let length = year_length year (year +ℤ pos 1) within refl in
    omega (arith, signed_arith, day_count-later_year year later (omega (arith, signed_arith, within)) below, days_from_civil-day_count year 1 1, days_from_civil-day_count later 1 1, here.before, there.from)

pub lies_once : (t year other : ℤ) → IsYear year → IsYear other → LiesInYear t year → LiesInYear t other → year ≡ other
lies_once t year other within other_within here there =
    by_lt_z year other (λ below. absurd (not_later t year other within below here there))
    (λ le.
    by_lt_z other year (λ above. absurd (not_later t other year other_within above there here))
    (λ ge. omega (arith, signed_arith)))

-- the last year that begins by then
year_before : (count : ℕ) (t last next : ℤ) → last ≡ (pos count -ℤ pos 9999) → last ≤ℤ pos 9999 → next ≡ (last +ℤ pos 1) → first_instant ≤ℤ t → t <ℤ year_start next → (year : ℤ) × IsYear year × LiesInYear t year
year_before zero t last next is high after from before =
    let first : last ≡ neg_ℤ (pos 9999) = omega (arith, signed_arith) in
    let begun : year_start last ≤ℤ t = rw (first, ← begin_of_time-midnight) from in
    (last, (omega (arith, signed_arith), omega (arith, signed_arith)), record { from = begun; before = rw (← after) before })
year_before (suc count) t last next is high after from before =
    by_lt_z t (year_start last)
    (λ earlier. year_before count t (last -ℤ pos 1) last (omega (arith, signed_arith)) (omega (arith, signed_arith)) (omega (arith, signed_arith)) from earlier)
    (λ begun. (last, (omega (arith, signed_arith), omega (arith, signed_arith)), record { from = begun; before = rw (← after) before }))

pub lies_in_some : (t : ℤ) → IsInstant t → (year : ℤ) × IsYear year × LiesInYear t year
lies_in_some t within =
    let before : t <ℤ year_start (pos 10_000) = rw (← end_of_time-midnight) within.1 in
    year_before 19_998 t (pos 9999) (pos 10_000) (omega (arith, signed_arith)) (omega (arith, signed_arith)) (omega (arith, signed_arith)) within.0 before
