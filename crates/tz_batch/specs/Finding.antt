-- What is found in a version: which answers fit each lookup.
use Rattle.std.specs.Prelude.{◌≡◌, ℕ, List, ℤ, Option}
use Rattle.tz_types.specs.declared.range.Choose.{Choose}
use Rattle.tz_expand.specs.declared.compiled_zone.CompiledZone.{CompiledZone}
use Rattle.tz_expand.specs.Zone.{expansion_of}
use Rattle.tz_windows.specs.Scan.{scan_of}
use Rattle.tz_lookup.specs.Finding.{IsInfoFound, IsLocalFound, IsSysFound, IsFoundByLeaps}
use Rattle.tz_lookup.specs.declared.conversion.Conversion.{Conversion}
use Rattle.tz_version.specs.declared.sources.Sources.{Sources}
use Rattle.tz_version.specs.Release.{Release, IsVersionOf, IsZoneCalled, LacksZone}
use Rattle.tz_lookup.specs.declared.found.Found.{Found}
use Rattle.tz_lookup.specs.declared.found.Found.TheVariants as found

-- what a lookup of an instant finds in a zone
abbrev pub FindsInfo : CompiledZone → ℤ → Found → Type 0
FindsInfo zone t found = IsInfoFound (expansion_of zone) t found

-- what a lookup of a local time finds
abbrev pub FindsLocal : CompiledZone → ℤ → Found → Type 0
FindsLocal zone l found = IsLocalFound (expansion_of zone) l found

-- what is found of the instant of a local time
abbrev pub FindsSys : CompiledZone → ℤ → Option Choose → Found → Type 0
FindsSys zone l choose found = IsSysFound (expansion_of zone) l choose found

-- what a scan finds
abbrev pub FindsScan : CompiledZone → ℤ → ℕ → ℕ → Found → Type 0
FindsScan zone from step count (found.Scan scan) = scan ≡ scan_of zone from step count
FindsScan zone from step count _ = ⊥

-- In the version of the source at a place, the name stands for a zone where this is found, or for none.
abbrev pub FindsInZone : Sources → ℕ → List ℕ → (CompiledZone → Found → Type 0) → Found → Type 0
FindsInZone sources src name finds found.NoZone =
    (release : Release) × IsVersionOf sources src release × LacksZone release name
FindsInZone sources src name finds found =
    (release : Release) × (zone : CompiledZone) × IsVersionOf sources src release
    × IsZoneCalled release name zone × finds zone found

-- what is found by a clock, over the leap text of the sources
abbrev pub FindsByClock : Sources → Conversion → ℤ → Found → Type 0
FindsByClock sources conversion x found = IsFoundByLeaps sources.leaps conversion x found
