use Rattle.std.proofs.Common.{◌≡◌, map}
use Rattle.tz_database.specs.NameMap.{known_of}
use Rattle.std.specs.List.{filter_map}
use Rattle.tz_specs.specs.Written.{written_link}
use Rattle.tz_specs.specs.Whole.{zone_name, names_given}
use Rattle.tz_database.specs.Parts.{contents_given}
use Rattle.tz_specs.specs.Written.{written_zone}
use Rattle.tz_database.specs.LeastFault.{told_with}
use Rattle.tz_database.specs.FirstLine.{later_name}
use Rattle.tz_database.proofs.FirstLines.{same_repeats}
use Rattle.tz_database.proofs.ToldLists.{told_in_turn}
use Rattle.tz_database.proofs.repeated_name.tell_repeated_names.Goals as goal

pub returns : goal.returns
returns c =
    let least_of = known_of c.in_ok-lines.lines in
    let names = names_given (contents_given c.args.parts.now) in
    let same = same_repeats least_of names c.in_ok-lines.ensures in
    let zones = filter_map zone_name (map (written_zone c.args.parts.now.names) c.args.parts.now.zones) in
    let links = map (λ link. (link.name, link.line)) (map written_link c.args.parts.now.links) in
    let after_zones : c.tell_later_zones.new.told.least ≡ told_with c.args.told.now.least (filter_map (later_name least_of) zones) = c.tell_later_zones.ensures in
    let after_links : c.tell_later_links.new.told.least ≡ told_with c.tell_later_zones.new.told.least (filter_map (later_name least_of) links) = c.tell_later_links.ensures in
    rw (← same) (told_in_turn (later_name least_of) zones links c.args.told.now.least c.tell_later_zones.new.told.least c.tell_later_links.new.told.least after_zones after_links)
