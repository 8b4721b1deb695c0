-- What a scan has seen so far, and what comes of it with the ranges that follow.
use Rattle.std.specs.Prelude.{ℕ, ◌+◌, ◌*◌, ◌≤◌, if◌then◌else◌, List, [], ◌∷◌, length, ℤ, pos, ◌+ℤ◌, Option, Some, None}
use Rattle.std.specs.Ordering.{int_eq}
use Rattle.jiff_core.specs.Calendar.{IsWithin}
use Rattle.tz_types.specs.declared.limit.TheConstants.{LONGEST_OFFSET}
use Rattle.tz_types.specs.declared.range.SysInfo.{SysInfo}
use Rattle.tz_windows.specs.declared.scan.Scan.{Scan}
use Rattle.tz_windows.specs.declared.scan.Seen.{Seen}
use Rattle.tz_windows.specs.Scan.{sum_of_offsets}

abbrev pub nothing_seen : Seen
nothing_seen = record { scan = record { inside = 0; offsets = pos 0; changes = 0 }; begin = None }

-- 1 where a range begins elsewhere than the one before it, if there is one
abbrev pub change_to : Option ℤ → SysInfo → ℕ
change_to None range = 0
change_to (Some begin) range = if int_eq begin range.begin then 0 else 1

-- how many of the ranges begin elsewhere than the one before them
abbrev pub changes_from : Option ℤ → List SysInfo → ℕ
changes_from begin [] = 0
changes_from begin (range ∷ ranges) = change_to begin range + changes_from (Some range.begin) ranges

-- the whole scan, where these ranges follow
abbrev pub scan_from : Seen → List SysInfo → Scan
scan_from seen ranges =
    record {
      inside = seen.scan.inside + length ranges;
      offsets = seen.scan.offsets +ℤ sum_of_offsets ranges;
      changes = seen.scan.changes + changes_from seen.begin ranges;
    }

-- the sums are as small as so many ranges make them
pub record IsSoFar (seen : Seen) : Type 0 where
  pub offsets : IsWithin (LONGEST_OFFSET * seen.scan.inside) seen.scan.offsets
  pub changes : seen.scan.changes ≤ seen.scan.inside
