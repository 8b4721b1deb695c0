-- A zone of a source, made ready for questions.
use Rattle.std.specs.Prelude.{◌≡◌, ℕ, List, Some, slice_get}
use Rattle.tz_types.specs.declared.source.Source.{Source}
use Rattle.tz_types.specs.declared.zone.Zone.{Zone}
use Rattle.tz_types.specs.declared.database.Db.{Db}
use Rattle.tz_specs.specs.Reads as texts
use Rattle.tz_lines.specs.Locate.{located}
use Rattle.tz_expand.specs.declared.compiled_zone.CompiledZone.{CompiledZone}
use Rattle.tz_expand.specs.Zone.{IsCompiled}
use Rattle.tz_cli.specs.Text.{HasNoZone}
use Rattle.tz_cli.specs.declared.refusal.Refusal.{Refusal}
use Rattle.tz_cli.specs.declared.refusal.Refusal.TheVariants as refusals

-- The compiled zone is the one of that name in the database that the source says.
pub record IsNamedZone (source : Source) (name : List ℕ) (compiled : CompiledZone) : Type 0 where
  pub db : Db
  pub reads : texts.Reads source db
  pub place : ℕ
  pub named : located db name ≡ Some place
  pub zone : Zone
  pub there : slice_get db.zones place ≡ Some zone
  pub is : IsCompiled db zone compiled

-- want of memory, or the source is refused, or it has no zone of that name
abbrev pub RefusesZone : Source → List ℕ → Refusal → Type 0
RefusesZone source name refusals.Memory = Unit {0}
RefusesZone source name (refusals.Text fault) = texts.Refuses source fault
RefusesZone source name refusals.NoZone = HasNoZone source name
RefusesZone source name _ = ⊥
