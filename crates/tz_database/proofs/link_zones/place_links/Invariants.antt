use Rattle.std.proofs.Common.{◌≡◌, map, take, Some}
use Rattle.tz_types.specs.declared.link.Link.{Link}
use Rattle.tz_specs.specs.Written.{written_link}
use Rattle.tz_database.specs.ZonePlace.{place_reached}
use Rattle.tz_database.proofs.link_zones.place_links.Given as goal

-- the links say the same, and those so far have their places
abbrev pub invariant-loop-place : goal.invariant-loop-place
invariant-loop-place l =
    record {
      written : map written_link l.link-items ≡ map written_link l.fn.links;
      places : map (λ (link : Link). Some link.zone) (take l.place l.link-items) ≡ map (place_reached l.names l.zones) (take l.place l.reached);
    }
