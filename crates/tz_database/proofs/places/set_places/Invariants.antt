use Rattle.std.proofs.Common.{◌≡◌, map, take}
use Rattle.tz_database.specs.SetPlace.{set_place_of}
use Rattle.tz_database.proofs.places.set_places.Given as goal

abbrev pub invariant-loop-name : goal.invariant-loop-name
invariant-loop-name l = l.places.items ≡ map (set_place_of l.sets) (take l.name-index l.names)
