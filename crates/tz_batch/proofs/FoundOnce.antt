-- What a zone or a leap text settles: each lookup finds one thing there.
use Rattle.std.proofs.Common.{◌≡◌, ℕ, sym, ap, ◌∙◌, Option, ℤ}
use Rattle.tz_types.specs.declared.range.Choose.{Choose}
use Rattle.tz_expand.specs.declared.compiled_zone.CompiledZone.{CompiledZone}
use Rattle.tz_expand.specs.Zone.{expansion_of}
use Rattle.tz_windows.specs.Scan.{scan_of}
use Rattle.tz_lookup.specs.declared.conversion.Conversion.{Conversion}
use Rattle.tz_lookup.specs.declared.found.Found.{Found}
use Rattle.tz_lookup.specs.declared.found.Found.TheVariants as found
use Rattle.tz_lookup.proofs.FoundOnce as lookups
use Rattle.tz_version.specs.declared.sources.Sources.{Sources}
use Rattle.tz_batch.specs.Finding.{FindsInfo, FindsLocal, FindsSys, FindsScan, FindsByClock}

-- a lookup of an instant finds one thing in a zone
pub info_once : (t : ℤ) (zone : CompiledZone) (f g : Found) → FindsInfo zone t f → FindsInfo zone t g → f ≡ g
info_once t zone f g h k = lookups.info_once t (expansion_of zone) f g h k

-- a lookup of a local time does
pub local_once : (l : ℤ) (zone : CompiledZone) (f g : Found) → FindsLocal zone l f → FindsLocal zone l g → f ≡ g
local_once l zone f g h k = lookups.local_once l (expansion_of zone) f g h k

-- a lookup of the instant of a local time does
pub sys_once : (l : ℤ) (choose : Option Choose) (zone : CompiledZone) (f g : Found) → FindsSys zone l choose f → FindsSys zone l choose g → f ≡ g
sys_once l choose zone f g h k = lookups.sys_once l choose (expansion_of zone) f g h k

scan_is : (from : ℤ) (step count : ℕ) (zone : CompiledZone) (f : Found) → FindsScan zone from step count f → f ≡ found.Scan (scan_of zone from step count)
scan_is from step count zone (found.Info range) h = absurd h
scan_is from step count zone (found.Local info) h = absurd h
scan_is from step count zone (found.Sys time) h = absurd h
scan_is from step count zone (found.Undecided info) h = absurd h
scan_is from step count zone (found.Scan scan) h = ap found.Scan h
scan_is from step count zone (found.Clock counted) h = absurd h
scan_is from step count zone (found.Leap info) h = absurd h
scan_is from step count zone found.NoZone h = absurd h
scan_is from step count zone found.Range h = absurd h

-- a scan does
pub scan_once : (from : ℤ) (step count : ℕ) (zone : CompiledZone) (f g : Found) → FindsScan zone from step count f → FindsScan zone from step count g → f ≡ g
scan_once from step count zone f g h k = scan_is from step count zone f h ∙ sym (scan_is from step count zone g k)

-- a conversion does over the leap text of sources
pub by_clock_once : (sources : Sources) (conversion : Conversion) (x : ℤ) (f g : Found) → FindsByClock sources conversion x f → FindsByClock sources conversion x g → f ≡ g
by_clock_once sources conversion x f g h k = lookups.by_leaps_once sources.leaps conversion x f g h k
