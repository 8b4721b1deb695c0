-- What a zone's clock shows.
use Rattle.std.specs.Prelude.{◌≡◌, ℤ, ◌+ℤ◌, Some}
use Rattle.tz_types.specs.declared.range.SysInfo.{SysInfo}
use Rattle.tz_specs.specs.Expansion.{range_at}
use Rattle.tz_expand.specs.declared.compiled_zone.CompiledZone.{CompiledZone}
use Rattle.tz_expand.specs.Zone.{expansion_of}

-- at the instant t the zone's clock shows l
abbrev pub ShowsAt : CompiledZone → ℤ → ℤ → Type 0
ShowsAt zone t l =
    (range : SysInfo) × (range_at (expansion_of zone) t ≡ Some range) × (l ≡ (t +ℤ range.offset))
