-- What `moves` answers over a source.
use Rattle.std.specs.Prelude.{◌≡◌, ℕ, List, ℤ}
use Rattle.std.specs.List.{flat_map}
use Rattle.tz_types.specs.declared.source.Source.{Source}
use Rattle.tz_expand.specs.declared.compiled_zone.CompiledZone.{CompiledZone}
use Rattle.tz_expand.specs.Stretch.{IsStretch}
use Rattle.tz_moves.specs.Move.{moves_between}
use Rattle.tz_cli.specs.Line.{move_line}
use Rattle.tz_cli.specs.ZoneAnswer.{ZoneAnswers}
use Rattle.tz_words.specs.declared.status.Status.{Status}
use Rattle.tz_words.specs.declared.status.Status.TheVariants as statuses

-- a line for each move of the zone in the stretch
abbrev pub AreMovesOf : ℤ → ℤ → CompiledZone → Status → List ℕ → Type 0
AreMovesOf from to zone statuses.Ok text = text ≡ flat_map move_line (moves_between zone from to)
AreMovesOf from to zone _ text = ⊥

-- the statuses of `moves`, each with what it prints and its reason in the source
abbrev pub MovesAnswers : Source → List ℕ → ℤ → ℤ → Status → List ℕ → Type 0
MovesAnswers source name from to status text =
    ZoneAnswers source name (IsStretch from to) (AreMovesOf from to) status text
