-- What the answers on local times say of ranges that follow one another.
use Rattle.std.specs.Prelude.{◌≡◌, ℕ, suc, ◌<◌, ◌⊎◌, false, List, ℤ, ◌+ℤ◌, ◌≤ℤ◌, ◌<ℤ◌, Some, slice_get, IsTrue}
use Rattle.std.specs.List.{Contains}
use Rattle.tz_types.specs.declared.range.SysInfo.{SysInfo}
use Rattle.tz_specs.specs.Local.{shows_local}

-- one range shows l, and no other one does
pub record IsShownOnce (ranges : List SysInfo) (l : ℤ) (range : SysInfo) : Type 0 where
  pub among : Contains ranges range
  pub shown : IsTrue (shows_local l range)
  pub alone : (other : SysInfo) → Contains ranges other → IsTrue (shows_local l other) → other ≡ range

-- two ranges show l, the first of all that do and the last
pub record IsShownTwice (ranges : List SysInfo) (l : ℤ) (first second : SysInfo) : Type 0 where
  pub first_among : Contains ranges first
  pub second_among : Contains ranges second
  pub first_shown : IsTrue (shows_local l first)
  pub second_shown : IsTrue (shows_local l second)
  pub apart : first.end ≤ℤ second.begin
  pub from_first : (other : SysInfo) → Contains ranges other → IsTrue (shows_local l other) → (other ≡ first) ⊎ (first.end ≤ℤ other.begin)
  pub to_second : (other : SysInfo) → Contains ranges other → IsTrue (shows_local l other) → (other ≡ second) ⊎ (other.end ≤ℤ second.begin)

-- No range shows l. Of two neighbours the first one's clock has passed it, and every range after the first begins after it
-- on its own clock: where l lies in several gaps, this is the last of them.
pub record IsInGap (ranges : List SysInfo) (l : ℤ) (first second : SysInfo) : Type 0 where
  pub place : ℕ
  pub first_at : slice_get ranges place ≡ Some first
  pub second_at : slice_get ranges (suc place) ≡ Some second
  pub meet : second.begin ≡ first.end
  pub after_first : (first.end +ℤ first.offset) ≤ℤ l
  pub before_later : (later : ℕ) (range : SysInfo) → place < later → slice_get ranges later ≡ Some range → l <ℤ (range.begin +ℤ range.offset)
  pub not_shown : (other : SysInfo) → Contains ranges other → shows_local l other ≡ false
