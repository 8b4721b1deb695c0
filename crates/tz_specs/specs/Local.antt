-- What a local time stands for, after ISO C++20 [time.zone.info.local] and [time.zone.members].
use Rattle.std.specs.Prelude.{Bool, ◌&&◌, List, [], ◌∷◌, filter, int_lt, int_le, ℤ, ◌+ℤ◌, ◌-ℤ◌, Option, Some, None, cond}
use Rattle.tz_types.specs.declared.range.SysInfo.{SysInfo}
use Rattle.tz_types.specs.declared.range.LocalInfo.{LocalInfo}
use Rattle.tz_types.specs.declared.range.LocalInfo.TheVariants.{Unique, Nonexistent, Ambiguous}
use Rattle.tz_types.specs.declared.range.Choose.{Choose}
use Rattle.tz_types.specs.declared.range.Choose.TheVariants.{Earliest, Latest}

-- the local time l is shown in the range
abbrev pub shows_local : ℤ → SysInfo → Bool
shows_local l range = int_le range.begin (l -ℤ range.offset) && int_lt (l -ℤ range.offset) range.end

-- the ranges in which it is shown
abbrev pub candidates : List SysInfo → ℤ → List SysInfo
candidates ranges l = filter (shows_local l) ranges

-- the range begins, on its own clock, at or before l
abbrev pub begins_by : ℤ → SysInfo → Bool
begins_by l range = int_le (range.begin +ℤ range.offset) l

-- the list from the last range on that begins by l
abbrev pub from_last_begun : List SysInfo → ℤ → List SysInfo
from_last_begun [] l = []
from_last_begun (range ∷ later) l = unless_later (from_last_begun later l)
  where
    unless_later : List SysInfo → List SysInfo
    unless_later [] = cond (begins_by l range) (range ∷ later) []
    unless_later (begun ∷ others) = begun ∷ others

-- the first range of a list and the one after it, as the two sides of a gap
abbrev pub gap_between : List SysInfo → Option LocalInfo
gap_between [] = None
gap_between (range ∷ []) = None
gap_between (range ∷ next ∷ later) = Some (Nonexistent range next)

-- the last element, from one on
abbrev pub last_from : SysInfo → List SysInfo → SysInfo
last_from range [] = range
last_from range (next ∷ later) = last_from next later

-- one candidate is unique; of more the first and the last are told; with none l lies between two ranges
unfoldable pub local_info : List SysInfo → ℤ → Option LocalInfo
local_info ranges l = by_candidates (candidates ranges l)
  where
    by_candidates : List SysInfo → Option LocalInfo
    by_candidates [] = gap_between (from_last_begun ranges l)
    by_candidates (range ∷ []) = Some (Unique range)
    by_candidates (range ∷ next ∷ later) = Some (Ambiguous range (last_from next later))

-- the instant of a local time under a choice, and none where a choice is needed and there is none
unfoldable pub chosen_instant : LocalInfo → ℤ → Option Choose → Option ℤ
chosen_instant (Unique range) l choice = Some (l -ℤ range.offset)
chosen_instant (Ambiguous first second) l None = None
chosen_instant (Ambiguous first second) l (Some Earliest) = Some (l -ℤ first.offset)
chosen_instant (Ambiguous first second) l (Some Latest) = Some (l -ℤ second.offset)
chosen_instant (Nonexistent first second) l None = None
chosen_instant (Nonexistent first second) l (Some choice) = Some first.end
