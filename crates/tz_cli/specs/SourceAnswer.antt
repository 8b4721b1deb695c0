-- What a command answers that asks a source, in the one order in which such commands refuse: the source is refused, or it
-- lacks the zone that is asked for, or what is asked isn't in range.
use Rattle.std.specs.Prelude.{◌≡◌, ℕ, List, Option, Some, None, IsSome}
use Rattle.tz_types.specs.declared.source.Source.{Source}
use Rattle.tz_types.specs.declared.database.Db.{Db}
use Rattle.tz_specs.specs.Reads.{Reads}
use Rattle.tz_lines.specs.Locate.{located}
use Rattle.tz_lookup.specs.declared.found.Found.TheVariants as found
use Rattle.tz_cli.specs.FoundLine.{found_line}
use Rattle.tz_cli.specs.Text.{IsTextRefusal, HasNoZone}
use Rattle.tz_words.specs.declared.status.Status.{Status}
use Rattle.tz_words.specs.declared.status.Status.TheVariants as statuses

-- Where a zone is asked for by its name, it is there.
abbrev pub IsThere : Db → Option (List ℕ) → Type 0
IsThere db None = Unit {0}
IsThere db (Some name) = IsSome (located db name)

-- A zone is asked for that no zone and no link of the source has for a name.
abbrev pub IsMissing : Source → Option (List ℕ) → Type 0
IsMissing source None = ⊥
IsMissing source (Some name) = HasNoZone source name

-- The source has what is asked for, and what is asked of it isn't in range.
pub record IsOutOfRange (source : Source) (asked : Option (List ℕ)) (inside : Type 0) : Type 0 where
  pub db : Db
  pub reads : Reads source db
  pub there : IsThere db asked
  pub outside : ¬ inside

-- The statuses of a command that asks a source for the zone of a name, or for all zones, each with its line and its
-- reason: by when what is asked is in range, and by what is then answered.
abbrev pub SourceAnswers : Source → Option (List ℕ) → Type 0 → (Status → List ℕ → Type 0) → Status → List ℕ → Type 0
SourceAnswers source asked inside answers statuses.Text line = IsTextRefusal source line
SourceAnswers source asked inside answers statuses.NoZone line =
    IsMissing source asked × (line ≡ found_line found.NoZone)
SourceAnswers source asked inside answers statuses.Range line =
    IsOutOfRange source asked inside × (line ≡ found_line found.Range)
SourceAnswers source asked inside answers status line = inside × answers status line
