use Rattle.std.proofs.Common.{◌≡◌, None, map, sym, ap, ◌∙◌}
use Rattle.tz_database.specs.NameMap.{known_of}
use Rattle.std.specs.List.{filter_map}
use Rattle.tz_specs.specs.Written.{written_link}
use Rattle.tz_specs.specs.Whole.{zone_name}
use Rattle.tz_specs.specs.Written.{written_zone}
use Rattle.tz_database.specs.FirstLine.{first_line}
use Rattle.tz_database.proofs.FirstLines.{first-append}
use Rattle.tz_database.proofs.repeated_name.first_lines.Goals as goal

pub returns : goal.returns
returns c = λ name.
    let zones = filter_map zone_name (map (written_zone c.args.parts.now.names) c.args.parts.now.zones) in
    let links = map (λ link. (link.name, link.line)) (map written_link c.args.parts.now.links) in
    let noted_zones : known_of c.note_zones.new.lines name ≡ first_line name None zones =
    (rw c.new-lines.ensures.empty at c.in_ok-note_zones.ensures) name in
    let noted_links : known_of c.note_links.new.lines name ≡ first_line name (known_of c.note_zones.new.lines name) links =
    c.in_ok-note_links.ensures name in
    noted_links ∙ ap (λ least. first_line name least links) noted_zones ∙ sym (first-append name None zones links)
