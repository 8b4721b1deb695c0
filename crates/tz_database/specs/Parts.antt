-- What the parts that lines gave stand for: the contents of a text.
use Rattle.std.specs.Prelude.{false, map}
use Rattle.tz_specs.specs.Written.{written_set, written_zone, written_link}
use Rattle.tz_specs.specs.Contents.{Contents}
use Rattle.tz_database.specs.declared.parts.Parts.{Parts}

abbrev pub contents_given : Parts → Contents
contents_given parts =
    record {
      sets = map written_set parts.sets;
      zones = map (written_zone parts.names) parts.zones;
      links = map written_link parts.links;
      begun = false;
    }
