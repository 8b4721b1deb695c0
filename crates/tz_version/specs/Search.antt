-- Compiled zones by name.
use Rattle.std.specs.Prelude.{ℕ, nat_eq, Bool, List, Option, option_map, position, find}
use Rattle.std.specs.Cmp.Lexicographic.{pointwise}
use Rattle.tz_types.specs.declared.link.Link.{Link}
use Rattle.tz_specs.specs.Day.{or_else}
use Rattle.tz_lines.specs.Locate.{is_link_named}
use Rattle.tz_expand.specs.declared.compiled_zone.CompiledZone.{CompiledZone}

abbrev pub is_compiled_named : List ℕ → CompiledZone → Bool
is_compiled_named name zone = pointwise nat_eq zone.name name

-- the place of the zone of that name, or else the place that the link of that name leads to
abbrev pub place_called : List CompiledZone → List Link → List ℕ → Option ℕ
place_called zones links name =
    or_else (position (is_compiled_named name) zones)
    (option_map (λ (link : Link). link.zone) (find (is_link_named name) links))
