-- Days as zic(8) names them, under "Rule lines", ON: a day number, the last such weekday of the month,
-- or the first one on or after, or the last one on or before, a day.
use Rattle.std.specs.Prelude.{ℕ, ◌+◌, ◌-◌, ◌%◌, Bool, true, ◌&&◌, nat_le, if◌then◌else◌, ℤ, pos, ◌+ℤ◌, ◌-ℤ◌, ◌*ℤ◌, ◌≤ℤ◌, ◌<ℤ◌}
use Rattle.std.specs.Ordering.{int_eq}
use Rattle.jiff_core.specs.Calendar.{days_from_civil, days_in_month, weekday_number}
use Rattle.tz_types.specs.declared.calendar.Month.{Month}
use Rattle.tz_types.specs.declared.calendar.Month.TheVariants as months
use Rattle.tz_types.specs.declared.calendar.Weekday.{Weekday}
use Rattle.tz_types.specs.declared.calendar.Weekday.TheVariants as weekdays
use Rattle.tz_types.specs.declared.calendar.On.{On}
use Rattle.tz_types.specs.declared.calendar.On.TheVariants.{Day, Last, From, UpTo}

-- January is 1, and December 12
abbrev pub month_number : Month → ℕ
month_number months.January = 1
month_number months.February = 2
month_number months.March = 3
month_number months.April = 4
month_number months.May = 5
month_number months.June = 6
month_number months.July = 7
month_number months.August = 8
month_number months.September = 9
month_number months.October = 10
month_number months.November = 11
month_number months.December = 12

-- Monday is 0, and Sunday 6
abbrev pub monday_zero : Weekday → ℕ
monday_zero weekdays.Sunday = 6
monday_zero weekdays.Monday = 0
monday_zero weekdays.Tuesday = 1
monday_zero weekdays.Wednesday = 2
monday_zero weekdays.Thursday = 3
monday_zero weekdays.Friday = 4
monday_zero weekdays.Saturday = 5

-- the month's length in a leap year, and in a common one
abbrev pub longest_month : Month → ℕ
longest_month month = days_in_month (pos 2000) (month_number month)

abbrev pub shortest_month : Month → ℕ
shortest_month month = days_in_month (pos 2001) (month_number month)

-- a day number from 1 to the last
abbrev pub is_day_up_to : ℕ → ℕ → Bool
is_day_up_to last day = nat_le 1 day && nat_le day last

-- the day can be asked for in this year: a plain day number is one that the month then has, and
-- one after `>=` or `<=` is one that it has in a leap year
abbrev pub has_day : ℤ → Month → On → Bool
has_day year month (Day day) = is_day_up_to (days_in_month year (month_number month)) day
has_day year month (Last weekday) = true
has_day year month (From weekday day) = is_day_up_to (longest_month month) day
has_day year month (UpTo weekday day) = is_day_up_to (longest_month month) day

-- the same over all years from one to another: 29 February as a plain day number takes one single leap year
abbrev pub has_day_through : ℤ → ℤ → Month → On → Bool
has_day_through from to month (Day day) =
    is_day_up_to (if int_eq from to then days_in_month from (month_number month) else shortest_month month) day
has_day_through from to month (Last weekday) = true
has_day_through from to month (From weekday day) = is_day_up_to (longest_month month) day
has_day_through from to month (UpTo weekday day) = is_day_up_to (longest_month month) day

-- day d counted from the first of the month, which may lie in the next month
abbrev pub counted_day : ℤ → Month → ℕ → ℤ
counted_day year month day = days_from_civil year (month_number month) 1 +ℤ (pos day -ℤ pos 1)

-- the first such weekday on or after the day, and the last one on or before it
abbrev pub on_or_after : Weekday → ℤ → ℤ
on_or_after weekday day = day +ℤ pos ((monday_zero weekday + 7 - weekday_number day) % 7)

abbrev pub on_or_before : Weekday → ℤ → ℤ
on_or_before weekday day = day -ℤ pos ((weekday_number day + 7 - monday_zero weekday) % 7)

-- the day number, where 1970-01-01 is 0
unfoldable pub day_number : ℤ → Month → On → ℤ
day_number year month (Day day) = days_from_civil year (month_number month) day
day_number year month (Last weekday) =
    on_or_before weekday (days_from_civil year (month_number month) (days_in_month year (month_number month)))
day_number year month (From weekday day) = on_or_after weekday (counted_day year month day)
day_number year month (UpTo weekday day) = on_or_before weekday (counted_day year month day)

-- the second at which a civil year begins
abbrev pub year_start : ℤ → ℤ
year_start year = pos 86_400 *ℤ days_from_civil year 1 1

-- the second lies in the civil year
pub record LiesInYear (t year : ℤ) : Type 0 where
  pub from : year_start year ≤ℤ t
  pub before : t <ℤ year_start (year +ℤ pos 1)
