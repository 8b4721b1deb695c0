-- Zones by name.
use Rattle.std.specs.Prelude.{ℕ, nat_eq, Bool, List, Option, option_map, position, find}
use Rattle.std.specs.Cmp.Lexicographic.{pointwise}
use Rattle.tz_types.specs.declared.zone.Zone.{Zone}
use Rattle.tz_types.specs.declared.link.Link.{Link}
use Rattle.tz_types.specs.declared.database.Db.{Db}
use Rattle.tz_specs.specs.Day.{or_else}

abbrev pub is_zone_named : List ℕ → Zone → Bool
is_zone_named name zone = pointwise nat_eq zone.name name

abbrev pub is_link_named : List ℕ → Link → Bool
is_link_named name link = pointwise nat_eq link.name name

-- the place of the zone of that name, or else the place that the link of that name leads to
abbrev pub located : Db → List ℕ → Option ℕ
located db name =
    or_else (position (is_zone_named name) db.zones)
    (option_map (λ (link : Link). link.zone) (find (is_link_named name) db.links))
