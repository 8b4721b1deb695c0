-- What lookups find, by all ranges of a zone or by a leap table. A lookup out of its range finds just that.
use Rattle.std.specs.Prelude.{◌≡◌, ℕ, List, ℤ, ◌+ℤ◌, ◌-ℤ◌, Option, Some, None}
use Rattle.tz_types.specs.declared.range.SysInfo.{SysInfo}
use Rattle.tz_types.specs.declared.range.LocalInfo.{LocalInfo}
use Rattle.tz_types.specs.declared.range.Choose.{Choose}
use Rattle.tz_types.specs.declared.leaps.Leaps.{Leaps}
use Rattle.tz_specs.specs.Expansion.{IsInstant, range_at}
use Rattle.tz_specs.specs.LeapSecond.{IsUtcCount, IsSystemTime, IsLeapInfo, utc_count, tai_count, gps_count, tai_ahead, gps_behind}
use Rattle.tz_specs.specs.LeapText.{ReadsLeaps}
use Rattle.tz_specs.specs.Local.{local_info, chosen_instant}
use Rattle.tz_local.specs.Choice.{IsNotUnique}
use Rattle.tz_local.specs.LocalTime.{IsLocalTime}
use Rattle.tz_lookup.specs.declared.conversion.Conversion.{Conversion}
use Rattle.tz_lookup.specs.declared.conversion.Conversion.TheVariants as conversions
use Rattle.tz_lookup.specs.declared.found.Found.{Found}
use Rattle.tz_lookup.specs.declared.found.Found.TheVariants as found

-- a lookup of an instant finds the range that holds it
abbrev pub IsInfoFound : List SysInfo → ℤ → Found → Type 0
IsInfoFound ranges t (found.Info range) = IsInstant t × (range_at ranges t ≡ Some range)
IsInfoFound ranges t found.Range = ¬ (IsInstant t)
IsInfoFound ranges t _ = ⊥

-- a lookup of a local time finds which ranges show it
abbrev pub IsLocalFound : List SysInfo → ℤ → Found → Type 0
IsLocalFound ranges l (found.Local info) = IsLocalTime l × (local_info ranges l ≡ Some info)
IsLocalFound ranges l found.Range = ¬ (IsLocalTime l)
IsLocalFound ranges l _ = ⊥

-- a lookup of the instant of a local time finds it under the choice; with no choice it may be undecided
abbrev pub IsSysFound : List SysInfo → ℤ → Option Choose → Found → Type 0
IsSysFound ranges l choose (found.Sys t) =
    IsLocalTime l × (info : LocalInfo) × (local_info ranges l ≡ Some info) × (chosen_instant info l choose ≡ Some t)
IsSysFound ranges l choose (found.Undecided info) =
    (choose ≡ None) × IsLocalTime l × (local_info ranges l ≡ Some info) × IsNotUnique info
IsSysFound ranges l choose found.Range = ¬ (IsLocalTime l)
IsSysFound ranges l choose _ = ⊥

-- a count is in the range of a conversion: it is a system time, or it or its UTC count is a UTC count
abbrev pub IsCountOf : Conversion → Leaps → ℤ → Type 0
IsCountOf conversions.SysToUtc leaps x = IsInstant x
IsCountOf conversions.UtcToSys leaps x = IsUtcCount leaps.entries x
IsCountOf conversions.UtcInfo leaps x = IsUtcCount leaps.entries x
IsCountOf conversions.UtcToTai leaps x = IsUtcCount leaps.entries x
IsCountOf conversions.TaiToUtc leaps x = IsUtcCount leaps.entries (x -ℤ tai_ahead)
IsCountOf conversions.UtcToGps leaps x = IsUtcCount leaps.entries x
IsCountOf conversions.GpsToUtc leaps x = IsUtcCount leaps.entries (x +ℤ gps_behind)

-- y is the count of the other clock
abbrev pub ConvertsTo : Conversion → Leaps → ℤ → ℤ → Type 0
ConvertsTo conversions.SysToUtc leaps x y = y ≡ utc_count leaps.entries x
ConvertsTo conversions.UtcToSys leaps x y = IsSystemTime leaps.entries x y
ConvertsTo conversions.UtcInfo leaps x y = ⊥
ConvertsTo conversions.UtcToTai leaps x y = y ≡ tai_count x
ConvertsTo conversions.TaiToUtc leaps x y = y ≡ x -ℤ tai_ahead
ConvertsTo conversions.UtcToGps leaps x y = y ≡ gps_count x
ConvertsTo conversions.GpsToUtc leaps x y = y ≡ x +ℤ gps_behind

-- a conversion finds the count of the other clock, or what there is to know of a UTC count
abbrev pub IsCountFound : Conversion → Leaps → ℤ → Found → Type 0
IsCountFound conversion leaps x (found.Clock y) = IsCountOf conversion leaps x × ConvertsTo conversion leaps x y
IsCountFound conversion leaps x (found.Leap info) =
    (conversion ≡ conversions.UtcInfo) × IsUtcCount leaps.entries x × IsLeapInfo leaps x info
IsCountFound conversion leaps x found.Range = ¬ (IsCountOf conversion leaps x)
IsCountFound conversion leaps x _ = ⊥

-- the same over the leap table that a text says
abbrev pub IsFoundByLeaps : List ℕ → Conversion → ℤ → Found → Type 0
IsFoundByLeaps text conversion x found =
    (leaps : Leaps) × ReadsLeaps text leaps × IsCountFound conversion leaps x found
