-- Leap seconds, and the clocks of UTC, TAI and GPS, after ISO C++20 [time.clock.utc], [time.clock.utc.members],
-- [time.clock.tai] and [time.clock.gps]. The date of an entry is the instant of the midnight that follows a second which is
-- added to the UTC count, or at which one is skipped. A UTC count is the number of seconds since 1970-01-01 00:00:00, with
-- the added ones and without the skipped ones.
use Rattle.std.specs.Prelude.{◌≡◌, Bool, true, false, ◌&&◌, if◌then◌else◌, ◌⊎◌, List, Contains, int_lt, int_le, ℤ, pos, ◌+ℤ◌, ◌-ℤ◌, ◌≤ℤ◌, ◌<ℤ◌, Option, Some, None, IsTrue}
use Rattle.std.specs.Ordering.{int_eq}
use Rattle.std.specs.List.{list_any}
use Rattle.tz_types.specs.Leap.{sum_where}
use Rattle.tz_types.specs.declared.leap_entry.LeapEntry.{LeapEntry}
use Rattle.tz_types.specs.declared.leaps.Leaps.{Leaps}
use Rattle.tz_types.specs.declared.leap_info.LeapInfo.{LeapInfo}
use Rattle.tz_specs.specs.Expansion.{first_instant, end_of_time}

-- how many seconds all entries add
abbrev pub all_seconds : List LeapEntry → ℤ
all_seconds entries = sum_where (λ entry. true) entries

-- how many seconds the entries before a date add
abbrev pub sum_before : List LeapEntry → ℤ → ℤ
sum_before entries date = sum_where (λ entry. int_lt entry.date date) entries

-- the UTC count of a system time: it, and what the entries at or before it add
abbrev pub utc_count : List LeapEntry → ℤ → ℤ
utc_count entries t = t +ℤ sum_where (λ entry. int_le entry.date t) entries

-- the UTC count of the second that is added right before a date
abbrev pub inserted_second : List LeapEntry → ℤ → ℤ
inserted_second entries date = date +ℤ sum_before entries date

-- an added second counts from itself on, and a skipped one from the UTC count of its date on
abbrev pub counts_at : List LeapEntry → ℤ → LeapEntry → Bool
counts_at entries u entry =
    int_le (if entry.added then inserted_second entries entry.date else utc_count entries entry.date) u

-- how many seconds were added up to a UTC count, itself among them, less those that were skipped
abbrev pub elapsed_by : List LeapEntry → ℤ → ℤ
elapsed_by entries u = sum_where (counts_at entries u) entries

-- the UTC count is an added second
abbrev pub is_inserted : List LeapEntry → ℤ → Bool
is_inserted entries u =
    list_any (λ entry. entry.added && int_eq (inserted_second entries entry.date) u) entries

-- u is the added second of an entry, and t the last system time before its date
pub record IsHeldBack (entries : List LeapEntry) (u t : ℤ) : Type 0 where
  pub entry : LeapEntry
  pub is_entry : Contains entries entry
  pub is_added : IsTrue entry.added
  pub inserted : u ≡ inserted_second entries entry.date
  pub last_before : t ≡ entry.date -ℤ pos 1

-- u is no added second, and t the greatest system time of which it is the UTC count
pub record IsCounted (entries : List LeapEntry) (u t : ℤ) : Type 0 where
  pub not_inserted : is_inserted entries u ≡ false
  pub count : utc_count entries t ≡ u
  pub greatest : (other : ℤ) → utc_count entries other ≡ u → other ≤ℤ t

-- t is the system time of the UTC count u
abbrev pub IsSystemTime : List LeapEntry → ℤ → ℤ → Type 0
IsSystemTime entries u t = IsHeldBack entries u t ⊎ IsCounted entries u t

-- a UTC count in range: time ends as many seconds later as all entries add
abbrev pub IsUtcCount : List LeapEntry → ℤ → Type 0
IsUtcCount entries u = (first_instant ≤ℤ u) × (u <ℤ (end_of_time +ℤ all_seconds entries))

-- the table expires, and the system time isn't before that moment
abbrev pub is_past : Option ℤ → ℤ → Bool
is_past None t = false
is_past (Some moment) t = int_le moment t

-- what there is to know of the UTC count u
pub record IsLeapInfo (leaps : Leaps) (u : ℤ) (info : LeapInfo) : Type 0 where
  pub is_leap : info.is_leap ≡ is_inserted leaps.entries u
  pub elapsed : info.elapsed ≡ elapsed_by leaps.entries u
  pub time : ℤ
  pub is_time : IsSystemTime leaps.entries u time
  pub expired : info.expired ≡ is_past leaps.expires time

-- TAI counts from 1958-01-01 00:00:00 on, and was 10 seconds ahead of UTC in 1972: 4,383 days and those 10 seconds
abbrev pub tai_ahead : ℤ
tai_ahead = pos 378_691_210

-- GPS counts from 1980-01-06 00:00:00 on, before which 9 seconds had been inserted: 3,657 days and those 9 seconds
abbrev pub gps_behind : ℤ
gps_behind = pos 315_964_809

-- the count of TAI at a UTC count
abbrev pub tai_count : ℤ → ℤ
tai_count u = u +ℤ tai_ahead

-- the count of GPS at a UTC count
abbrev pub gps_count : ℤ → ℤ
gps_count u = u -ℤ gps_behind
