-- The day of a rule is later in a later year.
use Rattle.std.proofs.Common.{◌≡◌, ℕ, ◌+◌, ◌-◌, ◌≤◌, Bool, true, false, cond, arith, ℤ, pos, neg_ℤ, ◌+ℤ◌, ◌-ℤ◌, ◌*ℤ◌, ◌<ℤ◌, ◌≤ℤ◌, IsTrue, nat_lt}
use Rattle.std.specs.Ordering.{int_eq}
use Rattle.jiff_core.specs.Calendar.{days_from_civil, day_count, days_in_month}
use Rattle.jiff_core.proofs.CalendarLemmas.{days_of_months_more, days_of_months_mono, days_of_months_all, day_count-next_year, days_from_civil-day_count, day_count-day_of_year, day_count-later_year, days_of_months_table, days_in_month_bounds, day_count-day}
use Rattle.jiff_core.proofs.MarchLemmas.{leap_day, days_in_year-leap_day}
use Rattle.jiff_core.proofs.SignedLemmas.{signed_arith}
use Rattle.tz_types.specs.declared.calendar.Month.{Month}
use Rattle.tz_types.specs.declared.calendar.Month.TheVariants as months
use Rattle.tz_types.specs.declared.calendar.Weekday.{Weekday}
use Rattle.tz_types.specs.declared.calendar.On.{On}
use Rattle.tz_types.specs.declared.calendar.On.TheVariants.{Day, Last, From, UpTo}
use Rattle.tz_types.specs.declared.moment.Moment.{Moment}
use Rattle.tz_types.specs.Calendar.{month_number, is_day_up_to, longest_month, shortest_month, has_day, has_day_through, counted_day, on_or_after, on_or_before, day_number}
use Rattle.tz_types.proofs.Days.{day_up_to}
use Rattle.std.specs.Prelude.{nat_le}
use Rattle.std.proofs.lemmas.Bool.{and_from, le-leb}
use Rattle.std.proofs.lemmas.Bool.Decides.{Decides-int_eq}
use Rattle.tz_types.specs.declared.rule.Rule.{Rule}
use Rattle.tz_types.specs.Year.{IsRuleYear}
use Rattle.tz_specs.specs.Occurrence.{nominal_second}
use Rattle.tz_specs.proofs.Tests.{by_test}

pub month_bounds : (month : Month) → (1 ≤ month_number month) × (month_number month ≤ 12)
month_bounds months.January = (omega arith, omega arith)
month_bounds months.February = (omega arith, omega arith)
month_bounds months.March = (omega arith, omega arith)
month_bounds months.April = (omega arith, omega arith)
month_bounds months.May = (omega arith, omega arith)
month_bounds months.June = (omega arith, omega arith)
month_bounds months.July = (omega arith, omega arith)
month_bounds months.August = (omega arith, omega arith)
month_bounds months.September = (omega arith, omega arith)
month_bounds months.October = (omega arith, omega arith)
month_bounds months.November = (omega arith, omega arith)
month_bounds months.December = (omega arith, omega arith)

leap_step : (late : Bool) (this other : ℕ) → cond late this 0 ≤ this + cond late other 0
leap_step true this other = omega arith
leap_step false this other = omega arith

-- the first of a month is at least 365 days later in a later year
pub first_of_month_rises : (year later : ℤ) (m : ℕ) → neg_ℤ (pos 10000) ≤ℤ year → year <ℤ later → 1 ≤ m → m ≤ 12 → day_count year m 1 + 365 ≤ day_count later m 1
first_of_month_rises year later m low after first last =
    omega (arith, day_count-day_of_year year m 1 (omega arith), day_count-day_of_year later m 1 (omega arith), day_count-later_year year later low after, days_of_months_table year (m - 1) (omega arith), days_of_months_table later (m - 1) (omega arith), days_in_year-leap_day year, leap_step (nat_lt 1 (m - 1)) (leap_day year) (leap_day later))

-- the same as day numbers, for any day of the month
pub civil_day_rises : (year later : ℤ) (month : Month) (day later_day : ℕ) → neg_ℤ (pos 10000) ≤ℤ year → year <ℤ later → 1 ≤ day → 1 ≤ later_day → (days_from_civil year (month_number month) day +ℤ pos (365 + later_day)) ≤ℤ (days_from_civil later (month_number month) later_day +ℤ pos day)
civil_day_rises year later month day later_day low after positive later_positive =
    let bounds = month_bounds month in
    omega (arith, signed_arith, first_of_month_rises year later (month_number month) low after bounds.0 bounds.1, days_from_civil-day_count year (month_number month) day, days_from_civil-day_count later (month_number month) later_day, day_count-day year (month_number month) 1 day (omega arith) positive, day_count-day later (month_number month) 1 later_day (omega arith) later_positive)

-- less than a week of difference doesn't reach over a year
after_rises : (weekday : Weekday) (day later_day : ℤ) → (day +ℤ pos 358) ≤ℤ later_day → (on_or_after weekday day +ℤ pos 350) ≤ℤ on_or_after weekday later_day
after_rises weekday day later_day apart = omega (arith, signed_arith)

before_rises : (weekday : Weekday) (day later_day : ℤ) → (day +ℤ pos 358) ≤ℤ later_day → (on_or_before weekday day +ℤ pos 350) ≤ℤ on_or_before weekday later_day
before_rises weekday day later_day apart = omega (arith, signed_arith)

counted_rises : (year later : ℤ) (month : Month) (day : ℕ) → neg_ℤ (pos 10000) ≤ℤ year → year <ℤ later → (counted_day year month day +ℤ pos 358) ≤ℤ counted_day later month day
counted_rises year later month day low after =
    omega (arith, signed_arith, civil_day_rises year later month 1 1 low after (omega arith) (omega arith))

-- days of one form and month are at least 350 days apart in different years
pub day_number_apart : (year later from to : ℤ) (month : Month) (on : On) → neg_ℤ (pos 10000) ≤ℤ year → year <ℤ later → IsTrue (has_day_through from to month on) → (day_number year month on +ℤ pos 350) ≤ℤ day_number later month on
unfolding day_number
day_number_apart year later from to month (Day day) low after has =
    let within = day_up_to _ day has in
    omega (arith, signed_arith, civil_day_rises year later month day day low after within.0 within.0)
day_number_apart year later from to month (Last weekday) low after has =
    let m = month_number month in
    let here = days_in_month_bounds year m in
    let there = days_in_month_bounds later m in
    before_rises weekday (days_from_civil year m (days_in_month year m)) (days_from_civil later m (days_in_month later m))
    (omega (arith, signed_arith, here, there, civil_day_rises year later month (days_in_month year m) (days_in_month later m) low after (omega (arith, here)) (omega (arith, there))))
day_number_apart year later from to month (From weekday day) low after has =
    after_rises weekday (counted_day year month day) (counted_day later month day) (counted_rises year later month day low after)
day_number_apart year later from to month (UpTo weekday day) low after has =
    before_rises weekday (counted_day year month day) (counted_day later month day) (counted_rises year later month day low after)

-- and so are their nominal seconds
pub nominal_apart : (year later from to : ℤ) (moment : Moment) → neg_ℤ (pos 10000) ≤ℤ year → year <ℤ later → IsTrue (has_day_through from to moment.month moment.on) → (nominal_second year moment +ℤ pos 30_240_000) ≤ℤ nominal_second later moment
nominal_apart year later from to moment low after has =
    let apart = day_number_apart year later from to moment.month moment.on low after has in
    omega (arith, signed_arith, apart)

pub nominal_rises : (year later from to : ℤ) (moment : Moment) → neg_ℤ (pos 10000) ≤ℤ year → year <ℤ later → IsTrue (has_day_through from to moment.month moment.on) → nominal_second year moment <ℤ nominal_second later moment
nominal_rises year later from to moment low after has =
    let apart = nominal_apart year later from to moment low after has in
    omega (arith, signed_arith, apart)

-- ---- a day of a year lies less than a week outside it
year_of_day : (year next : ℤ) (month : Month) (day : ℕ) → neg_ℤ (pos 10000) ≤ℤ year → next ≡ (year +ℤ pos 1) → 1 ≤ day → day ≤ days_in_month year (month_number month) + 1 → (days_from_civil year 1 1 ≤ℤ days_from_civil year (month_number month) day) × (days_from_civil year (month_number month) day ≤ℤ days_from_civil next 1 1)
year_of_day year next month day low is positive within =
    let bounds = month_bounds month in
    let m = month_number month in
    let count = day_count-day_of_year year m day positive in
    let start = day_count-day_of_year year 1 1 (omega arith) in
    let here = days_from_civil-day_count year m day in
    let first = days_from_civil-day_count year 1 1 in
    let then_first = days_from_civil-day_count next 1 1 in
    let next_year = day_count-next_year year next low is in
    let month_end = days_of_months_more year m bounds.0 in
    let all = days_of_months_mono year m 12 bounds.1 in
    let year_end = days_of_months_all year in
    (omega (arith, signed_arith, count, start, here, first), omega (arith, signed_arith, count, here, then_first, next_year, month_end, all, year_end))

last_day_bound : (year : ℤ) (month : Month) (day : ℕ) → day ≤ longest_month month → day ≤ days_in_month year (month_number month) + 1
last_day_bound year months.January day h = grind arith
last_day_bound year months.February day h = grind arith
last_day_bound year months.March day h = grind arith
last_day_bound year months.April day h = grind arith
last_day_bound year months.May day h = grind arith
last_day_bound year months.June day h = grind arith
last_day_bound year months.July day h = grind arith
last_day_bound year months.August day h = grind arith
last_day_bound year months.September day h = grind arith
last_day_bound year months.October day h = grind arith
last_day_bound year months.November day h = grind arith
last_day_bound year months.December day h = grind arith

-- a week's step around a day
stepped : (weekday : Weekday) (day low high : ℤ) → low ≤ℤ day → day ≤ℤ high → (low ≤ℤ on_or_after weekday day) × (on_or_after weekday day ≤ℤ (high +ℤ pos 6)) × ((low -ℤ pos 6) ≤ℤ on_or_before weekday day) × (on_or_before weekday day ≤ℤ high)
stepped weekday day low high above below =
    (omega (arith, signed_arith), omega (arith, signed_arith), omega (arith, signed_arith), omega (arith, signed_arith))

counted_is : (year : ℤ) (month : Month) (day : ℕ) → 1 ≤ day → counted_day year month day ≡ days_from_civil year (month_number month) day
counted_is year month day positive =
    omega (arith, signed_arith, days_from_civil-day_count year (month_number month) day, days_from_civil-day_count year (month_number month) 1, day_count-day year (month_number month) 1 day (omega arith) positive)

pub day_number_near : (year next : ℤ) (month : Month) (on : On) → neg_ℤ (pos 10000) ≤ℤ year → next ≡ (year +ℤ pos 1) → IsTrue (has_day year month on) → ((days_from_civil year 1 1 -ℤ pos 6) ≤ℤ day_number year month on) × (day_number year month on ≤ℤ (days_from_civil next 1 1 +ℤ pos 6))
unfolding day_number
day_number_near year next month (Day day) low is has =
    let within = day_up_to (days_in_month year (month_number month)) day has in
    let near = year_of_day year next month day low is within.0 (omega (arith, within)) in
    (omega (arith, signed_arith, near), omega (arith, signed_arith, near))
day_number_near year next month (Last weekday) low is has =
    let last = days_in_month year (month_number month) in
    let bounds = days_in_month_bounds year (month_number month) in
    let near = year_of_day year next month last low is (omega (arith, bounds)) (omega arith) in
    let step = stepped weekday (days_from_civil year (month_number month) last) (days_from_civil year 1 1) (days_from_civil next 1 1) near.0 near.1 in
    (step.2, omega (arith, signed_arith, step.3))
day_number_near year next month (From weekday day) low is has =
    let within = day_up_to (longest_month month) day has in
    let near = year_of_day year next month day low is within.0 (last_day_bound year month day within.1) in
    let counted = counted_is year month day within.0 in
    let step = stepped weekday (counted_day year month day) (days_from_civil year 1 1) (days_from_civil next 1 1) (rw counted near.0) (rw counted near.1) in
    (omega (arith, signed_arith, step.0), step.1)
day_number_near year next month (UpTo weekday day) low is has =
    let within = day_up_to (longest_month month) day has in
    let near = year_of_day year next month day low is within.0 (last_day_bound year month day within.1) in
    let counted = counted_is year month day within.0 in
    let step = stepped weekday (counted_day year month day) (days_from_civil year 1 1) (days_from_civil next 1 1) (rw counted near.0) (rw counted near.1) in
    (step.2, omega (arith, signed_arith, step.3))

-- ---- a rule's day is there in each of its years
shortest_bound : (year : ℤ) (month : Month) → shortest_month month ≤ days_in_month year (month_number month)
shortest_bound year months.January = grind arith
shortest_bound year months.February = grind arith
shortest_bound year months.March = grind arith
shortest_bound year months.April = grind arith
shortest_bound year months.May = grind arith
shortest_bound year months.June = grind arith
shortest_bound year months.July = grind arith
shortest_bound year months.August = grind arith
shortest_bound year months.September = grind arith
shortest_bound year months.October = grind arith
shortest_bound year months.November = grind arith
shortest_bound year months.December = grind arith

day_up_to-from : (last day : ℕ) → 1 ≤ day → day ≤ last → IsTrue (is_day_up_to last day)
day_up_to-from last day positive within = and_from (nat_le 1 day) (nat_le day last) (le-leb 1 day positive) (le-leb day last within)

pub has_day_in_year : (from to year : ℤ) (month : Month) (on : On) → from ≤ℤ year → year ≤ℤ to → IsTrue (has_day_through from to month on) → IsTrue (has_day year month on)
has_day_in_year from to year month (Day day) since through has =
    by_test (int_eq from to)
    (λ same.
    let equal : from ≡ to = (Decides-int_eq from to).0 same in
    let the_year : from ≡ year = omega (arith, signed_arith) in
    let in_from : IsTrue (is_day_up_to (days_in_month from (month_number month)) day) = rw same at has in
    rw (← the_year) in_from)
    (λ differ.
    let in_shortest : IsTrue (is_day_up_to (shortest_month month) day) = rw differ at has in
    let within = day_up_to (shortest_month month) day in_shortest in
    day_up_to-from (days_in_month year (month_number month)) day within.0 (omega (arith, within.1, shortest_bound year month)))
has_day_in_year from to year month (Last weekday) since through has = has
has_day_in_year from to year month (From weekday day) since through has = has
has_day_in_year from to year month (UpTo weekday day) since through has = has

-- a rule's nominal second lies near its year
pub nominal_near : (rule : Rule) (year next : ℤ) → IsRuleYear year → rule.from ≤ℤ year → year ≤ℤ rule.to → next ≡ (year +ℤ pos 1) → (((pos 86_400 *ℤ days_from_civil year 1 1) -ℤ pos 4_118_401) ≤ℤ nominal_second year rule.moment) × (nominal_second year rule.moment ≤ℤ ((pos 86_400 *ℤ days_from_civil next 1 1) +ℤ pos 4_118_401))
nominal_near rule year next within since through is =
    let has = has_day_in_year rule.from rule.to year rule.moment.month rule.moment.on since through rule.day_in in
    let near = day_number_near year next rule.moment.month rule.moment.on (omega (arith, signed_arith, within)) is has in
    let at = rule.at_in in
    (omega (arith, signed_arith, near, at), omega (arith, signed_arith, near, at))
