-- How a source is refused, and which names it lacks.
use Rattle.std.specs.Prelude.{◌≡◌, ℕ, List, None, codes}
use Rattle.tz_types.specs.declared.fault.Fault.{Fault}
use Rattle.tz_types.specs.declared.source.Source.{Source}
use Rattle.tz_types.specs.declared.database.Db.{Db}
use Rattle.tz_specs.specs.Reads.{Reads, Refuses}
use Rattle.tz_lines.specs.Locate.{located}
use Rattle.tz_cli.specs.Line.{fault_line}

-- The source is refused, and the line says with which fault.
abbrev pub IsTextRefusal : Source → List ℕ → Type 0
IsTextRefusal source line = (fault : Fault) × Refuses source fault × (line ≡ fault_line (codes "text") fault)

-- No zone and no link of the source has the name.
pub record HasNoZone (source : Source) (name : List ℕ) : Type 0 where
  pub db : Db
  pub reads : Reads source db
  pub none : located db name ≡ None
