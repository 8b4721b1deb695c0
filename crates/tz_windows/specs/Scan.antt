-- What a scan tells of the ranges that hold the instants at which it looks.
use Rattle.std.specs.Prelude.{ℕ, ◌+◌, ◌*◌, if◌then◌else◌, List, [], ◌∷◌, length, map, filter_map, ℤ, pos, ◌+ℤ◌}
use Rattle.std.specs.List.{range_with_len}
use Rattle.std.specs.Ordering.{int_eq}
use Rattle.tz_types.specs.declared.range.SysInfo.{SysInfo}
use Rattle.tz_specs.specs.Expansion.{range_at}
use Rattle.tz_expand.specs.declared.compiled_zone.CompiledZone.{CompiledZone}
use Rattle.tz_expand.specs.Zone.{expansion_of}
use Rattle.tz_windows.specs.declared.scan.Scan.{Scan}

-- the instants at which a scan looks: as many as it counts, from the first on, a step apart
abbrev pub looked_at : ℤ → ℕ → ℕ → List ℤ
looked_at from step count = map (λ place. from +ℤ pos (place * step)) (range_with_len 0 count)

-- the ranges of the zone that hold them, where they are in range
abbrev pub ranges_seen : CompiledZone → ℤ → ℕ → ℕ → List SysInfo
ranges_seen zone from step count = filter_map (range_at (expansion_of zone)) (looked_at from step count)

-- the sum of their offsets
abbrev pub sum_of_offsets : List SysInfo → ℤ
sum_of_offsets [] = pos 0
sum_of_offsets (range ∷ ranges) = range.offset +ℤ sum_of_offsets ranges

-- how many are another range than the one before, where ranges of a zone are told apart by where they begin
abbrev pub changes_after : SysInfo → List SysInfo → ℕ
changes_after before [] = 0
changes_after before (range ∷ ranges) =
    (if int_eq before.begin range.begin then 0 else 1) + changes_after range ranges

-- the first is no change
abbrev pub changes : List SysInfo → ℕ
changes [] = 0
changes (range ∷ ranges) = changes_after range ranges

abbrev pub scan_of : CompiledZone → ℤ → ℕ → ℕ → Scan
scan_of zone from step count =
    let ranges = ranges_seen zone from step count in
    record { inside = length ranges; offsets = sum_of_offsets ranges; changes = changes ranges }
