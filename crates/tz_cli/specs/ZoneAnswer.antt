-- What a command answers that asks a zone of a source, by its name.
use Rattle.std.specs.Prelude.{ℕ, List, Some, Result, Ok, Err, Vec, codes}
use Rattle.std.specs.declared.alloc.Global.{Global}
use Rattle.tz_types.specs.declared.source.Source.{Source}
use Rattle.tz_expand.specs.declared.compiled_zone.CompiledZone.{CompiledZone}
use Rattle.tz_cli.specs.NamedZone.{IsNamedZone}
use Rattle.tz_cli.specs.SourceAnswer.{SourceAnswers}
use Rattle.tz_cli.specs.declared.refusal.Refusal.{Refusal}
use Rattle.tz_cli.specs.declared.refusal.Refusal.TheVariants as refusals
use Rattle.tz_words.specs.declared.status.Status.{Status}
use Rattle.tz_words.specs.declared.status.Status.TheVariants as statuses

-- The source has the zone, and so it answers.
pub record IsToldByZone (source : Source) (name : List ℕ) (told : CompiledZone → Type 0) : Type 0 where
  pub zone : CompiledZone
  pub named : IsNamedZone source name zone
  pub is : told zone

-- The statuses of a command that asks a zone: by when what is asked is in range, and by what a zone then answers.
abbrev pub ZoneAnswers : Source → List ℕ → Type 0 → (CompiledZone → Status → List ℕ → Type 0) → Status → List ℕ → Type 0
ZoneAnswers source name inside told status line =
    SourceAnswers source (Some name) inside (λ status line. IsToldByZone source name (λ zone. told zone status line)) status line

-- What a zone that is there answers: a text; or that what is asked isn't in range, or has no file, but that memory
-- may run out at any time.
abbrev pub GivesOfZone : Type 0 → (Status → List ℕ → Type 0) → Result (Vec ℕ Global) Refusal → Type 0
GivesOfZone inside told (Ok text) = inside × told statuses.Ok text.items
GivesOfZone inside told (Err refusals.Range) = ¬ inside
GivesOfZone inside told (Err refusals.Memory) = Unit {0}
GivesOfZone inside told (Err refusals.Types) = inside × told statuses.Types (codes "types\n")
GivesOfZone inside told (Err refusals.Designations) = inside × told statuses.Designations (codes "designations\n")
GivesOfZone inside told (Err refusal) = ⊥
