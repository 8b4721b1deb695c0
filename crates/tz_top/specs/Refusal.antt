-- Why a batch has no text: what each step of it may be refused with.
use Rattle.std.specs.Prelude.{ℕ, List}
use Rattle.tz_script.specs.Script.{RefusesScript}
use Rattle.tz_version.specs.Refusal.{RefusesLeapText, RefusesSource}
use Rattle.tz_version.specs.declared.sources.Sources.{Sources}
use Rattle.tz_io.specs.Files.{FilesState}
use Rattle.tz_cli.specs.declared.refusal.Refusal.{Refusal}
use Rattle.tz_cli.specs.declared.refusal.Refusal.TheVariants as refusals
use Rattle.tz_top.specs.Groups.{FailsToReadGroups, ReadsTooMuchOfGroups}

-- want of memory, or a file gave no content, or those of a group gave too much
abbrev pub RefusesGroups : FilesState → FilesState → List (List (List ℕ)) → Refusal → Type 0
RefusesGroups before after groups refusals.Memory = Unit {0}
RefusesGroups before after groups refusals.Read = FailsToReadGroups before after groups
RefusesGroups before after groups refusals.TooLarge = ReadsTooMuchOfGroups before groups
RefusesGroups before after groups _ = ⊥

-- want of memory, or the text is refused as a script that may name so many sources
abbrev pub RefusesAsScript : ℕ → List ℕ → Refusal → Type 0
RefusesAsScript sources text refusals.Memory = Unit {0}
RefusesAsScript sources text (refusals.Script fault) = RefusesScript sources text fault
RefusesAsScript sources text _ = ⊥

-- want of memory, or no version is made of the first source: the leap text is refused, or else that source is
abbrev pub RefusesToOpen : Sources → Refusal → Type 0
RefusesToOpen sources refusals.Memory = Unit {0}
RefusesToOpen sources (refusals.Leaps fault) = RefusesLeapText sources.leaps fault
RefusesToOpen sources (refusals.Text fault) = RefusesSource sources 0 fault
RefusesToOpen sources _ = ⊥
