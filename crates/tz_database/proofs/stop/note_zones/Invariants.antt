use Rattle.std.proofs.Common.{◌≡◌, ℕ, List}
use Rattle.tz_database.specs.NameMap.{known_of}
use Rattle.tz_database.specs.Stops.{zone_names, first_stop}
use Rattle.tz_database.specs.declared.stop.Stop.TheVariants as stops
use Rattle.tz_database.proofs.stop.note_zones.Given as goal

-- what is known when the zones that are left are noted too
abbrev pub invariant-loop-place : goal.invariant-loop-place
invariant-loop-place l =
    record {
      from_first : l.place-iterator.iter.count ≡ 0;
      each : (name : List ℕ) → first_stop stops.Zone 0 name (zone_names l.place-iterator.iter.iter.rest.now) (known_of l.known name) ≡ first_stop stops.Zone 0 name (zone_names l.zones) (known_of l.fn.known name);
    }
