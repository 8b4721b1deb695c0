-- In which years occurrences near a second lie.
use Rattle.std.proofs.Common.{◌≡◌, arith, refl, ℤ, pos, neg_ℤ, ◌+ℤ◌, ◌-ℤ◌, ◌<ℤ◌, ◌≤ℤ◌}
use Rattle.std.specs.Int.{int_max, int_min}
use Rattle.std.proofs.lemmas.Int.{ints, by_lt_z, int_max_is, int_min_is}
use Rattle.jiff_core.specs.Calendar.{IsYear}
use Rattle.jiff_core.proofs.SignedLemmas.{signed_arith}
use Rattle.tz_types.specs.declared.calendar.Month.TheVariants as months
use Rattle.tz_types.specs.declared.rule.Rule.{Rule}
use Rattle.tz_types.specs.Calendar.{year_start, LiesInYear}
use Rattle.tz_specs.specs.Occurrence.{nominal_second}
use Rattle.tz_specs.proofs.DayLemmas.{civil_day_rises, nominal_near}
use Rattle.tz_rules.specs.Occurs.{OccursIn}
use Rattle.tz_rules.specs.Mark.{IsLatestYear, IsEarliestYear}

-- a later year starts at least 365 days later
pub starts_apart : (year later : ℤ) → neg_ℤ (pos 10_000) ≤ℤ year → year <ℤ later → (year_start year +ℤ pos 31_536_000) ≤ℤ year_start later
starts_apart year later low after =
    omega (arith, signed_arith, civil_day_rises year later months.January 1 1 low after (omega arith) (omega arith))

pub starts_rise : (year later : ℤ) → neg_ℤ (pos 10_000) ≤ℤ year → year ≤ℤ later → year_start year ≤ℤ year_start later
starts_rise year later low after =
    by_lt_z year later
    (λ lt. let apart = starts_apart year later low lt in omega (arith, signed_arith))
    (λ le. let same : year ≡ later = omega (arith, signed_arith) in rw same (omega (arith, signed_arith)))

-- a rule's second in one of its years lies near that year
pub near_start : (rule : Rule) (year : ℤ) → OccursIn rule year → ((year_start year -ℤ pos 4_118_401) ≤ℤ nominal_second year rule.moment) × (nominal_second year rule.moment ≤ℤ (year_start (year +ℤ pos 1) +ℤ pos 4_118_401))
near_start rule year occurs =
    nominal_near rule year (year +ℤ pos 1) occurs.year_in occurs.since occurs.through refl

-- what occurs two years earlier comes earlier
pub two_years_earlier : (rule other : Rule) (year later : ℤ) → OccursIn rule year → OccursIn other later → (year +ℤ pos 2) ≤ℤ later → nominal_second year rule.moment <ℤ nominal_second later other.moment
two_years_earlier rule other year later here there apart =
    let near = near_start rule year here in
    let also = near_start other later there in
    let starts = starts_apart (year +ℤ pos 1) later (omega (arith, signed_arith, here.year_in)) (omega (arith, signed_arith)) in
    omega (arith, signed_arith, near.1, also.0, starts)

pub latest_is : (second shifted latest : ℤ) → shifted ≡ (second +ℤ pos 4_118_401) → IsYear latest → LiesInYear shifted latest → IsLatestYear second latest
latest_is second shifted latest is within lies =
    record {
      none_later = λ rule year occurs at_or_before.
          by_lt_z latest year
          (λ (later : latest <ℤ year).
          let near = near_start rule year occurs in
          let rise = starts_rise (latest +ℤ pos 1) year (omega (arith, signed_arith, within)) (omega (arith, signed_arith)) in
          let before = lies.before in
          absurd (omega (arith, signed_arith, near.0, rise, before)))
          (λ le. le);
      sure = λ rule year occurs earlier.
          let near = near_start rule year occurs in
          let apart = starts_apart (year +ℤ pos 1) latest (omega (arith, signed_arith, occurs.year_in)) (omega (arith, signed_arith)) in
          let from = lies.from in
          omega (arith, signed_arith, near.1, apart, from);
    }

pub earliest_is : (second shifted earliest : ℤ) → shifted ≡ (second -ℤ pos 4_118_402) → IsYear earliest → LiesInYear shifted earliest → IsEarliestYear second earliest
earliest_is second shifted earliest is within lies =
    record {
      none_earlier = λ rule year occurs at_or_after.
          by_lt_z year earliest
          (λ (before : year <ℤ earliest).
          let near = near_start rule year occurs in
          let rise = starts_rise (year +ℤ pos 1) earliest (omega (arith, signed_arith, occurs.year_in)) (omega (arith, signed_arith)) in
          let from = lies.from in
          absurd (omega (arith, signed_arith, near.1, rise, from)))
          (λ le. le);
      sure = λ rule year occurs later.
          let near = near_start rule year occurs in
          let apart = starts_apart (earliest +ℤ pos 1) year (omega (arith, signed_arith, within)) (omega (arith, signed_arith)) in
          let before = lies.before in
          omega (arith, signed_arith, near.0, apart, before);
    }

-- ---- the greater and the lesser of two years
pub max_least : (year a b greater : ℤ) → greater ≡ int_max a b → a ≤ℤ year → b ≤ℤ year → greater ≤ℤ year
max_least year a b greater is first second = omega (arith, ints, is, int_max_is a b)

pub min_greatest : (year a b lesser : ℤ) → lesser ≡ int_min a b → year ≤ℤ a → year ≤ℤ b → year ≤ℤ lesser
min_greatest year a b lesser is first second = omega (arith, ints, is, int_min_is a b)
