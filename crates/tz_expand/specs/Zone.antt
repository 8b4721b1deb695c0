-- How a compiled zone stands for a zone of a database.
use Rattle.std.specs.Prelude.{◌≡◌, Bool, List}
use Rattle.std.specs.List.{list_all}
use Rattle.tz_types.specs.declared.rule_set.RuleSet.{RuleSet}
use Rattle.tz_types.specs.declared.zone_line.ZoneLine.{ZoneLine}
use Rattle.tz_types.specs.declared.range.SysInfo.{SysInfo}
use Rattle.tz_types.specs.declared.database.Db.{Db}
use Rattle.tz_types.specs.declared.zone.Zone.{Zone}
use Rattle.tz_specs.specs.Expansion.{periods_of, full_expansion}
use Rattle.tz_specs.specs.Sound.{is_known}
use Rattle.tz_expand.specs.declared.compiled_zone.CompiledZone.{CompiledZone}
use Rattle.tz_expand.specs.Compiled.{periods}

-- every range of the zone, over all of time
abbrev pub expansion_of : CompiledZone → List SysInfo
expansion_of zone = full_expansion (periods zone.lines)

-- the rule sets that the lines follow are there
abbrev pub are_known : List RuleSet → List ZoneLine → Bool
are_known sets lines = list_all (λ line. is_known sets line.rules) lines

-- the compiled zone is this zone of the database: it has its name, and its lines in time
pub record IsCompiled (db : Db) (zone : Zone) (compiled : CompiledZone) : Type 0 where
  pub name : compiled.name ≡ zone.name
  pub lines : periods compiled.lines ≡ periods_of db zone
