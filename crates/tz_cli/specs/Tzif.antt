-- What `tzif` answers over a source.
use Rattle.std.specs.Prelude.{◌≡◌, ℕ, ◌<◌, ◌↔◌, List, length, Some, None, IsSome, codes, ℤ, pos, neg_ℤ, ◌+ℤ◌, ◌≤ℤ◌, ◌<ℤ◌, ◌-◌}
use Rattle.tz_types.specs.declared.limit.TheConstants.{LAST_RULE_YEAR}
use Rattle.tz_types.specs.Calendar.{year_start}
use Rattle.tz_types.specs.declared.range.SysInfo.{SysInfo}
use Rattle.tz_types.specs.declared.source.Source.{Source}
use Rattle.tz_specs.specs.Expansion.{range_at}
use Rattle.tz_expand.specs.declared.compiled_zone.CompiledZone.{CompiledZone}
use Rattle.tz_expand.specs.Zone.{expansion_of}
use Rattle.tz_expand.specs.Stretch.{ranges_between}
use Rattle.tz_tzif.specs.Types.{type_of, merged, AreFew, types_of}
use Rattle.tz_tzif.specs.File.{spelling}
use Rattle.tz_tzif.specs.Answer.{far_index}
use Rattle.tz_tzif.specs.Meaning.{IsMeaning}
use Rattle.tz_tzif.specs.declared.types.TheConstants.{MOST_TYPES}
use Rattle.tz_tzif.specs.declared.local_type.LocalType.{LocalType}
use Rattle.tz_tzif.specs.declared.tzif_error.TzifError.{TzifError}
use Rattle.tz_tzif.specs.declared.tzif_error.TzifError.TheVariants as errors
use Rattle.tz_cli.specs.ZoneAnswer.{ZoneAnswers}
use Rattle.tz_cli.specs.declared.refusal.Refusal.{Refusal}
use Rattle.tz_cli.specs.declared.refusal.Refusal.TheVariants as refusals
use Rattle.tz_words.specs.declared.status.Status.{Status}
use Rattle.tz_words.specs.declared.status.Status.TheVariants as statuses

-- The years are in order, and each of them, and the year behind them, is one in which rules may occur.
pub record AreYears (first last : ℤ) : Type 0 where
  pub begins : neg_ℤ (pos LAST_RULE_YEAR) ≤ℤ first
  pub ordered : first ≤ℤ last
  pub ends : last ≤ℤ pos (LAST_RULE_YEAR - 1)

-- the ranges of the zone that meet the years from their first midnight to that of the year behind them
abbrev pub ranges_of_years : ℤ → ℤ → CompiledZone → List SysInfo
ranges_of_years first last zone = ranges_between zone (year_start first) (year_start (last +ℤ pos 1))

-- the types that the clock shows in these years
abbrev pub types_of_years : ℤ → ℤ → CompiledZone → List LocalType
types_of_years first last zone = types_of (merged (ranges_of_years first last zone))

-- At each instant of these years the octets mean the one type of the range that holds it: its offset, its abbreviation and
-- whether there is a save.
abbrev pub MeansYears : ℤ → ℤ → CompiledZone → List ℕ → Type 0
MeansYears first last zone file =
    (t : ℤ) (range : SysInfo) → year_start first ≤ℤ t → t <ℤ year_start (last +ℤ pos 1)
    → range_at (expansion_of zone) t ≡ Some range
    → (local_type : LocalType) → IsMeaning file t local_type ↔ (local_type ≡ type_of range)

-- What a zone answers: the file of these years, which means what holds in them, unless their types are too many to be numbered, or a designation
-- begins too far behind the first.
abbrev pub IsFileOf : ℤ → ℤ → CompiledZone → Status → List ℕ → Type 0
IsFileOf first last zone statuses.Ok file =
    let types = types_of_years first last zone in
    AreFew types × (far_index types ≡ None) × (file ≡ spelling (year_start first) (ranges_of_years first last zone))
    × MeansYears first last zone file
IsFileOf first last zone statuses.Types line =
    (MOST_TYPES < length (types_of_years first last zone)) × (line ≡ codes "types\n")
IsFileOf first last zone statuses.Designations line =
    let types = types_of_years first last zone in
    AreFew types × IsSome (far_index types) × (line ≡ codes "designations\n")
IsFileOf first last zone _ line = ⊥

-- the statuses of `tzif`, each with what it prints and its reason in the source
abbrev pub TzifAnswers : Source → List ℕ → ℤ → ℤ → Status → List ℕ → Type 0
TzifAnswers source name first last status file =
    ZoneAnswers source name (AreYears first last) (IsFileOf first last) status file

-- why the command has no file where there is none
abbrev pub as_refusal : TzifError → Refusal
as_refusal errors.NoMemory = refusals.Memory
as_refusal (errors.Types count) = refusals.Types
as_refusal (errors.Designations at) = refusals.Designations
