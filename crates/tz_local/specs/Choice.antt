-- Which local times need a choice, and the instants that they stand for.
use Rattle.std.specs.Prelude.{◌≡◌, ℤ, Option, Some}
use Rattle.jiff_core.specs.Calendar.{IsWithin}
use Rattle.tz_types.specs.declared.limit.TheConstants.{LONGEST_OFFSET}
use Rattle.tz_types.specs.declared.range.LocalInfo.{LocalInfo}
use Rattle.tz_types.specs.declared.range.LocalInfo.TheVariants.{Unique, Nonexistent, Ambiguous}
use Rattle.tz_types.specs.declared.range.Choose.{Choose}
use Rattle.tz_specs.specs.Local.{local_info, chosen_instant}
use Rattle.tz_expand.specs.declared.compiled_zone.CompiledZone.{CompiledZone}
use Rattle.tz_expand.specs.Zone.{expansion_of}
use Rattle.tz_local.specs.LocalTime.{IsLocalTime}

-- no range shows the local time, or several do
abbrev pub IsNotUnique : LocalInfo → Type 0
IsNotUnique (Unique range) = ⊥
IsNotUnique (Nonexistent first second) = Unit {0}
IsNotUnique (Ambiguous first second) = Unit {0}

-- l is told by this local info, which gives an instant only by a choice
abbrev pub NeedsChoice : CompiledZone → ℤ → LocalInfo → Type 0
NeedsChoice zone l info =
    IsLocalTime l × (local_info (expansion_of zone) l ≡ Some info) × IsNotUnique info

-- the instant that l stands for under the choice
abbrev pub IsInstantOf : CompiledZone → ℤ → Option Choose → ℤ → Type 0
IsInstantOf zone l choose t =
    (info : LocalInfo) × (local_info (expansion_of zone) l ≡ Some info) × (chosen_instant info l choose ≡ Some t)

-- each range that is told has an offset of at most two days
abbrev pub HasNearOffsets : LocalInfo → Type 0
HasNearOffsets (Unique range) = IsWithin LONGEST_OFFSET range.offset
HasNearOffsets (Nonexistent first second) =
    IsWithin LONGEST_OFFSET first.offset × IsWithin LONGEST_OFFSET second.offset
HasNearOffsets (Ambiguous first second) =
    IsWithin LONGEST_OFFSET first.offset × IsWithin LONGEST_OFFSET second.offset
