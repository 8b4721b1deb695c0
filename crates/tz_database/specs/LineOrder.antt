-- Zones that begin one after another, and links that stand one after another.
use Rattle.std.specs.Prelude.{Bool, map, filter_map, nat_lt}
use Rattle.tz_types.specs.Order.{ascends}
use Rattle.tz_specs.specs.Contents.{Contents}
use Rattle.tz_specs.specs.Whole.{zone_name}

-- each zone begins on a later line than the zone before it
abbrev pub begin_in_order : Contents → Bool
begin_in_order contents = ascends nat_lt (map (λ named. named.1) (filter_map zone_name contents.zones))

-- each link stands on a later line than the link before it
abbrev pub link_in_order : Contents → Bool
link_in_order contents = ascends nat_lt (map (λ link. link.line) contents.links)
