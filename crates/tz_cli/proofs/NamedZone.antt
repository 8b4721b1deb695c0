-- How the zone of a name is found.
use Rattle.std.proofs.Common.{◌≡◌, ℕ, ◌<◌, List, length, Some, slice_get, inl, inr, arith}
use Rattle.std.proofs.lemmas.Option.{slice_get_cases}
use Rattle.tz_types.specs.declared.zone.Zone.{Zone}
use Rattle.tz_types.specs.declared.source.Source.{Source}
use Rattle.tz_types.specs.declared.database.Db.{Db}
use Rattle.tz_specs.specs.Reads.{Reads}
use Rattle.tz_lines.specs.Locate.{located}
use Rattle.tz_expand.specs.Zone.{IsCompiled}
use Rattle.tz_expand.specs.declared.compiled_zone.CompiledZone.{CompiledZone}
use Rattle.tz_cli.specs.NamedZone.{IsNamedZone}

pub found_zone : (source : Source) (name : List ℕ) (db : Db) (place : ℕ) (compiled : CompiledZone) → Reads source db → located db name ≡ Some place → place < length db.zones → ((zone : Zone) → slice_get db.zones place ≡ Some zone → IsCompiled db zone compiled) → IsNamedZone source name compiled
found_zone source name db place compiled reads named low is =
    elim (slice_get_cases db.zones place).1 [
      | inl at ↦ record { db = db; reads = reads; place = place; named = named; zone = at.0; there = at.2; is = is at.0 at.2 }
      | inr past ↦ absurd (omega (arith, past.0))
    ]
