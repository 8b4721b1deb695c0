-- Stretches of time, from an instant up to but excluding another, and what of a zone meets them.
use Rattle.std.specs.Prelude.{◌≡◌, ℕ, Bool, ◌&&◌, List, filter, int_lt, ℤ, pos, ◌+ℤ◌, ◌-ℤ◌, ◌≤ℤ◌, ◌<ℤ◌}
use Rattle.std.specs.List.{count_by}
use Rattle.jiff_core.specs.Calendar.{IsYear}
use Rattle.tz_types.specs.declared.range.SysInfo.{SysInfo}
use Rattle.tz_types.specs.Calendar.{LiesInYear}
use Rattle.tz_specs.specs.Expansion.{first_instant, end_of_time}
use Rattle.tz_expand.specs.declared.compiled_line.CompiledLine.{CompiledLine}
use Rattle.tz_expand.specs.declared.compiled_zone.CompiledZone.{CompiledZone}
use Rattle.tz_expand.specs.Zone.{expansion_of}

-- the stretch has an instant, and lies in time
pub record IsStretch (from to : ℤ) : Type 0 where
  pub begins : first_instant ≤ℤ from
  pub ordered : from <ℤ to
  pub ends : to ≤ℤ end_of_time

-- the range has an instant of the stretch
abbrev pub meets : ℤ → ℤ → SysInfo → Bool
meets from to range = int_lt range.begin to && int_lt from range.end

-- so has the line
abbrev pub line_meets : ℤ → ℤ → CompiledLine → Bool
line_meets from to line = int_lt line.start to && int_lt from line.end

-- the ranges of the zone's full expansion that meet the stretch, whole and in order
abbrev pub ranges_between : CompiledZone → ℤ → ℤ → List SysInfo
ranges_between zone from to = filter (meets from to) (expansion_of zone)

-- how many lines of the zone meet the stretch
abbrev pub lines_between : CompiledZone → ℤ → ℤ → ℕ
lines_between zone from to = count_by (line_meets from to) zone.lines

-- the stretch touches so many civil years
pub record TouchesYears (from to : ℤ) (count : ℕ) : Type 0 where
  pub first : ℤ
  pub last : ℤ
  pub first_in : IsYear first
  pub last_in : IsYear last
  pub begins : LiesInYear from first
  pub ends : LiesInYear (to -ℤ pos 1) last
  pub counted : pos count ≡ ((last -ℤ first) +ℤ pos 1)
