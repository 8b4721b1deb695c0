use Rattle.std.proofs.Common.{◌≡◌, ℕ, List}
use Rattle.tz_database.specs.NameMap.{known_of}
use Rattle.tz_database.specs.Stops.{link_names, first_stop}
use Rattle.tz_database.specs.declared.stop.Stop.TheVariants as stops
use Rattle.tz_database.proofs.stop.note_links.Given as goal

-- what is known when the links that are left are noted too
abbrev pub invariant-loop-place : goal.invariant-loop-place
invariant-loop-place l =
    record {
      from_first : l.place-iterator.iter.count ≡ 0;
      each : (name : List ℕ) → first_stop stops.Link 0 name (link_names l.place-iterator.iter.iter.rest.now) (known_of l.known name) ≡ first_stop stops.Link 0 name (link_names l.links) (known_of l.fn.known name);
    }
