-- What is found in a zone is found by its name.
use Rattle.std.proofs.Common.{ℕ, List}
use Rattle.tz_expand.specs.declared.compiled_zone.CompiledZone.{CompiledZone}
use Rattle.tz_version.specs.Release.{Release, IsVersionOf, IsZoneCalled}
use Rattle.tz_batch.specs.Finding.{FindsInZone}
use Rattle.tz_lookup.specs.declared.found.Found.{Found}
use Rattle.tz_lookup.specs.declared.found.Found.TheVariants as found

-- What a lookup finds in the zone that a name stands for, it finds by that name. In a zone it never finds that there is none.
pub found_in_zone : (version : Release) (name : List ℕ) (finds : CompiledZone → Found → Type 0) (zone : CompiledZone) (f : Found)
    → (finds zone found.NoZone → ⊥) → IsVersionOf version.sources version.src version → IsZoneCalled version name zone
    → finds zone f → FindsInZone version.sources version.src name finds f
found_in_zone version name finds zone (found.Info range) never is called h = (version, zone, is, called, h)
found_in_zone version name finds zone (found.Local info) never is called h = (version, zone, is, called, h)
found_in_zone version name finds zone (found.Sys t) never is called h = (version, zone, is, called, h)
found_in_zone version name finds zone (found.Undecided info) never is called h = (version, zone, is, called, h)
found_in_zone version name finds zone (found.Scan scan) never is called h = (version, zone, is, called, h)
found_in_zone version name finds zone (found.Clock count) never is called h = (version, zone, is, called, h)
found_in_zone version name finds zone (found.Leap info) never is called h = (version, zone, is, called, h)
found_in_zone version name finds zone found.NoZone never is called h = absurd (never h)
found_in_zone version name finds zone found.Range never is called h = (version, zone, is, called, h)
