-- What `days` answers over a source.
use Rattle.std.specs.Prelude.{◌≡◌, ℕ, zero, suc, ◌<◌, List, [], ◌∷◌, ℤ, pos, ◌+ℤ◌}
use Rattle.std.specs.List.{flat_map}
use Rattle.tz_types.specs.declared.source.Source.{Source}
use Rattle.tz_expand.specs.declared.compiled_zone.CompiledZone.{CompiledZone}
use Rattle.tz_expand.specs.Zone.{expansion_of}
use Rattle.tz_moves.specs.Day.{IsDay, day_seconds}
use Rattle.tz_cli.specs.Line.{day_line}
use Rattle.tz_cli.specs.ZoneAnswer.{ZoneAnswers}
use Rattle.tz_words.specs.declared.status.Status.{Status}
use Rattle.tz_words.specs.declared.status.Status.TheVariants as statuses

-- so many days from one on, each the day after the one before
unfoldable pub days_from : ℤ → ℕ → List ℤ
days_from day zero = []
days_from day (suc count) = day ∷ days_from (day +ℤ pos 1) count

-- each of so many days from the first on is in range
abbrev pub AreDays : ℤ → ℕ → Type 0
AreDays first count = (later : ℕ) → later < count → IsDay (first +ℤ pos later)

-- a line for each day: how many seconds the zone's clock shows of it
abbrev pub day_lines : CompiledZone → List ℤ → List ℕ
day_lines zone days = flat_map (λ day. day_line day (day_seconds day (expansion_of zone))) days

-- the lines of so many days from the first on
abbrev pub AreDaysOf : ℤ → ℕ → CompiledZone → Status → List ℕ → Type 0
AreDaysOf first count zone statuses.Ok text = text ≡ day_lines zone (days_from first count)
AreDaysOf first count zone _ text = ⊥

-- the statuses of `days`, each with what it prints and its reason in the source
abbrev pub DaysAnswers : Source → List ℕ → ℤ → ℕ → Status → List ℕ → Type 0
DaysAnswers source name first count status text =
    ZoneAnswers source name (AreDays first count) (AreDaysOf first count) status text
