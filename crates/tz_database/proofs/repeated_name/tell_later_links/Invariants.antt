use Rattle.std.proofs.Common.{◌≡◌, map, drop}
use Rattle.tz_database.specs.NameMap.{known_of}
use Rattle.std.specs.List.{filter_map}
use Rattle.tz_specs.specs.Written.{written_link}
use Rattle.tz_database.specs.LeastFault.{told_with}
use Rattle.tz_database.specs.FirstLine.{later_name}
use Rattle.tz_database.proofs.repeated_name.tell_later_links.Given as goal

-- the least, when the names of the links that are left are told too
abbrev pub invariant-loop-link : goal.invariant-loop-link
invariant-loop-link l =
    told_with l.told.least (filter_map (later_name (known_of l.lines)) (map (λ link. (link.name, link.line)) (map written_link (drop l.link-index l.parts.links)))) ≡ told_with l.fn.told.least (filter_map (later_name (known_of l.lines)) (map (λ link. (link.name, link.line)) (map written_link l.parts.links)))
