-- When a zone's clock visibly changes: its moves.
use Rattle.std.specs.Prelude.{◌≡◌, Bool, ◌&&◌, if◌then◌else◌, List, [], ◌∷◌, nat_eq, int_le, int_lt, ℤ, pos, ◌+ℤ◌, ◌-ℤ◌, ◌<ℤ◌, ◌≤ℤ◌, Option, Some, None}
use Rattle.std.specs.List.{Contains}
use Rattle.std.specs.Ordering.{int_eq}
use Rattle.std.specs.Cmp.Lexicographic.{pointwise}
use Rattle.tz_types.specs.declared.range.SysInfo.{SysInfo}
use Rattle.tz_specs.specs.Expansion.{first_instant, end_of_time}
use Rattle.tz_expand.specs.declared.compiled_zone.CompiledZone.{CompiledZone}
use Rattle.tz_expand.specs.Zone.{expansion_of}

-- the clock runs alike in two ranges: with the same offset, the same save and the same abbreviation
abbrev pub runs_alike : SysInfo → SysInfo → Bool
runs_alike before range =
    int_eq before.offset range.offset && int_eq before.save range.save && pointwise nat_eq before.abbrev range.abbrev

-- the ranges behind one in which the clock doesn't run as in the range right before them
abbrev pub moved_after : SysInfo → List SysInfo → List SysInfo
moved_after before [] = []
moved_after before (range ∷ later) =
    if runs_alike before range then moved_after range later else range ∷ moved_after range later

-- the ranges of a list that begin with a move: the first of all has none before it
abbrev pub moved_ranges : List SysInfo → List SysInfo
moved_ranges [] = []
moved_ranges (first ∷ later) = moved_after first later

-- a move of the zone: there a range begins in which the clock doesn't run as in the range before
abbrev pub IsMove : CompiledZone → ℤ → Type 0
IsMove zone at =
    (range : SysInfo) × Contains (moved_ranges (expansion_of zone)) range × (range.begin ≡ at)

-- the least move after t
pub record IsNextMove (zone : CompiledZone) (t at : ℤ) : Type 0 where
  pub is_move : IsMove zone at
  pub later : t <ℤ at
  pub least : (other : ℤ) → IsMove zone other → t <ℤ other → at ≤ℤ other

-- the greatest move at or before t
pub record IsPreviousMove (zone : CompiledZone) (t at : ℤ) : Type 0 where
  pub is_move : IsMove zone at
  pub not_later : at ≤ℤ t
  pub greatest : (other : ℤ) → IsMove zone other → other ≤ℤ t → other ≤ℤ at

-- the end of a stretch that has the next move in it, or all later time where there is none
abbrev pub end_with : Option ℤ → ℤ
end_with None = end_of_time
end_with (Some at) = at +ℤ pos 1

-- the begin of a stretch that has the second before the previous move in it, or all earlier time where there is none
abbrev pub begin_with : Option ℤ → ℤ
begin_with None = first_instant
begin_with (Some at) = at -ℤ pos 1

-- the range lies in time
abbrev pub IsInTime : SysInfo → Type 0
IsInTime range =
    (first_instant ≤ℤ range.begin) × (range.begin <ℤ range.end) × (range.end ≤ℤ end_of_time)

-- the range begins in the stretch
abbrev pub begins_between : ℤ → ℤ → SysInfo → Bool
begins_between from to range = int_le from range.begin && int_lt range.begin to
