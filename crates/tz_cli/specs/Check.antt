-- What `check` answers over a source.
use Rattle.std.specs.Prelude.{◌≡◌, ℕ, List}
use Rattle.tz_types.specs.declared.source.Source.{Source}
use Rattle.tz_types.specs.declared.database.Db.{Db}
use Rattle.tz_specs.specs.Reads.{Reads}
use Rattle.tz_cli.specs.Line.{check_line}
use Rattle.tz_cli.specs.Text.{IsTextRefusal}
use Rattle.tz_words.specs.declared.status.Status.{Status}
use Rattle.tz_words.specs.declared.status.Status.TheVariants as statuses

-- the statuses of `check`, each with its line and its reason in the source
abbrev pub CheckAnswers : Source → Status → List ℕ → Type 0
CheckAnswers source statuses.Ok line = (db : Db) × Reads source db × (line ≡ check_line db)
CheckAnswers source statuses.Text line = IsTextRefusal source line
CheckAnswers source _ line = ⊥
