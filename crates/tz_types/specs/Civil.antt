-- Seconds of civil dates and times of day, on whatever clock they are read from, after ISO C++20 [time.cal.ymd] and [time.hms].
use Rattle.std.specs.Prelude.{ℕ, ◌+◌, ◌*◌, nat_le, Bool, ◌&&◌, int_le, ℤ, pos, neg_ℤ, ◌+ℤ◌, ◌*ℤ◌}
use Rattle.jiff_core.specs.Calendar.{days_from_civil, days_in_month}

-- from a number to another
abbrev pub is_from_to : ℕ → ℕ → ℕ → Bool
is_from_to low high n = nat_le low n && nat_le n high

-- the calendar has the day, in the years -9999 to 9999
abbrev pub is_civil_date : ℤ → ℕ → ℕ → Bool
is_civil_date year month day =
    int_le (neg_ℤ (pos 9_999)) year && int_le year (pos 9_999) && is_from_to 1 12 month
    && is_from_to 1 (days_in_month year month) day

-- a clock without leap seconds shows the time
abbrev pub is_time_of_day : ℕ → ℕ → ℕ → Bool
is_time_of_day hour minute second = nat_le hour 23 && nat_le minute 59 && nat_le second 59

abbrev pub is_civil_second : ℤ → ℕ → ℕ → ℕ → ℕ → ℕ → Bool
is_civil_second year month day hour minute second =
    is_civil_date year month day && is_time_of_day hour minute second

-- how many seconds after 1970-01-01 00:00:00 of the same clock it is
abbrev pub civil_second : ℤ → ℕ → ℕ → ℕ → ℕ → ℕ → ℤ
civil_second year month day hour minute second =
    (pos 86_400 *ℤ days_from_civil year month day) +ℤ pos (3_600 * hour + 60 * minute + second)
