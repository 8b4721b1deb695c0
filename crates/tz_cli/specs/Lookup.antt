-- What the commands `info`, `local` and `clock` answer: what they find is told at its status, in its line.
use Rattle.std.specs.Prelude.{◌≡◌, ℕ, List, ℤ, Some, None, slice_get, codes}
use Rattle.tz_types.specs.declared.fault.LineFault.{LineFault}
use Rattle.tz_types.specs.declared.range.Choose.TheVariants.{Earliest, Latest}
use Rattle.tz_types.specs.declared.range.SysInfo.{SysInfo}
use Rattle.tz_types.specs.declared.zone.Zone.{Zone}
use Rattle.tz_types.specs.declared.source.Source.{Source}
use Rattle.tz_types.specs.declared.database.Db.{Db}
use Rattle.tz_specs.specs.Expansion.{IsInstant, periods_of, full_expansion}
use Rattle.tz_specs.specs.LeapText.{RefusesLeaps}
use Rattle.tz_specs.specs.Reads.{Reads}
use Rattle.tz_lines.specs.Locate.{located}
use Rattle.tz_local.specs.LocalTime.{IsLocalTime}
use Rattle.tz_lookup.specs.Finding.{IsInfoFound, IsLocalFound, IsSysFound, IsFoundByLeaps}
use Rattle.tz_lookup.specs.declared.choice.Choice.{Choice}
use Rattle.tz_lookup.specs.declared.choice.Choice.TheVariants as choices
use Rattle.tz_lookup.specs.declared.conversion.Conversion.{Conversion}
use Rattle.tz_lookup.specs.declared.found.Found.{Found}
use Rattle.tz_cli.specs.Line.{fault_line}
use Rattle.tz_cli.specs.FoundLine.{IsFoundLine}
use Rattle.tz_cli.specs.SourceAnswer.{SourceAnswers}
use Rattle.tz_words.specs.declared.status.Status.{Status}
use Rattle.tz_words.specs.declared.status.Status.TheVariants as statuses

-- The source has a zone of that name, and it holds of the ranges of its full expansion.
pub record HasZone (source : Source) (name : List ℕ) (holds : List SysInfo → Type 0) : Type 0 where
  pub db : Db
  pub reads : Reads source db
  pub place : ℕ
  pub named : located db name ≡ Some place
  pub zone : Zone
  pub there : slice_get db.zones place ≡ Some zone
  pub is : holds (full_expansion (periods_of db zone))

-- What is told is what a lookup finds in the zone of that name, of the source.
abbrev pub IsFoundInZone : Source → List ℕ → (List SysInfo → Found → Type 0) → Status → List ℕ → Type 0
IsFoundInZone source name finds status line =
    HasZone source name (λ ranges. IsFoundLine (finds ranges) status line)

-- the statuses of `info`, each with its line and its reason in the source
abbrev pub InfoAnswers : Source → List ℕ → ℤ → Status → List ℕ → Type 0
InfoAnswers source name t status line =
    SourceAnswers source (Some name) (IsInstant t) (IsFoundInZone source name (λ ranges. IsInfoFound ranges t)) status line

-- what `local` asks of a local time, by its choice
abbrev pub IsFoundByChoice : Choice → ℤ → List SysInfo → Found → Type 0
IsFoundByChoice choices.None l ranges what = IsLocalFound ranges l what
IsFoundByChoice choices.Strict l ranges what = IsSysFound ranges l None what
IsFoundByChoice choices.Earliest l ranges what = IsSysFound ranges l (Some Earliest) what
IsFoundByChoice choices.Latest l ranges what = IsSysFound ranges l (Some Latest) what

-- the statuses of `local`
abbrev pub LocalAnswers : Source → List ℕ → ℤ → Choice → Status → List ℕ → Type 0
LocalAnswers source name l choice status line =
    SourceAnswers source (Some name) (IsLocalTime l) (IsFoundInZone source name (IsFoundByChoice choice l)) status line

-- The leap text is refused, and the line says with which fault. There is but one file.
abbrev pub IsLeapRefusal : List ℕ → List ℕ → Type 0
IsLeapRefusal text line =
    (fault : LineFault) × RefusesLeaps text fault
    × (line ≡ fault_line (codes "leaps") (record { file = 0; line = fault.line; cause = fault.cause }))

-- the statuses of `clock`, each with its line and its reason in the leap text
abbrev pub ClockAnswers : List ℕ → Conversion → ℤ → Status → List ℕ → Type 0
ClockAnswers text conversion number statuses.Text line = IsLeapRefusal text line
ClockAnswers text conversion number status line =
    IsFoundLine (IsFoundByLeaps text conversion number) status line
