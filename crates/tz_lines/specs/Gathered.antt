-- What the contents that a text has given so far stand for.
use Rattle.std.specs.Prelude.{List, map}
use Rattle.tz_specs.specs.Written.{WrittenSet, written_set, written_zone, written_link}
use Rattle.tz_specs.specs.Contents.{Contents}
use Rattle.tz_lines.specs.declared.contents.Gathered.{Gathered}
use Rattle.tz_lines.specs.declared.rule_sets.RuleSets.{RuleSets}
use Rattle.tz_lines.specs.RuleSets.{in_name_order}

-- the rule sets, whose order is that of their names
abbrev pub sets_gathered : RuleSets → List WrittenSet
sets_gathered gathered = in_name_order (map written_set gathered.sets.items)

abbrev pub contents_gathered : Gathered → Contents
contents_gathered gathered =
    record {
      sets = sets_gathered gathered.sets;
      zones = map (written_zone gathered.names.labels.items) gathered.zones;
      links = map written_link gathered.links;
      begun = gathered.begun;
    }
