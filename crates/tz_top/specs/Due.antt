-- What is due at each status of any command, `batch` too.
use Rattle.std.specs.Prelude.{◌≡◌, ℕ, ◌⊎◌, List, codes}
use Rattle.tz_version.specs.declared.sources.Sources.{Sources}
use Rattle.tz_batch.specs.declared.outcome.Outcome.{Outcome}
use Rattle.tz_words.specs.BatchCommand.{BatchCommand, IsBatchCommand}
use Rattle.tz_io.specs.Files.{FilesState}
use Rattle.tz_cli.specs.Outcome.{IsDue}
use Rattle.tz_words.specs.declared.status.Status.{Status}
use Rattle.tz_words.specs.declared.status.Status.TheVariants as statuses
use Rattle.tz_top.specs.Groups.{MayReadGroups, FailsToReadGroups, ReadsTooMuchOfGroups}
use Rattle.tz_top.specs.BatchTexts.{file_groups, AreReadTexts}
use Rattle.tz_top.specs.BatchAnswer.{IsBatchOutcome, IsBatchAnswer}

-- The files of the batch may be the text of a script and sources, and the outcome is one that a run of that script
-- over those sources may give, in a list of as many slots as the batch asks for.
pub record IsOutcomeOf (batch : BatchCommand) (files : FilesState) (outcome : Outcome) : Type 0 where
  pub text : List ℕ
  pub sources : Sources
  pub read : AreReadTexts files batch text sources
  pub is : IsBatchOutcome batch.slots text sources outcome

-- The line is due at that status of a batch, by the files before and after. Memory may run out at any time.
abbrev pub IsBatchDue : BatchCommand → FilesState → FilesState → Status → List ℕ → Type 0
IsBatchDue batch before after statuses.Read line =
    FailsToReadGroups before after (file_groups batch) × (line ≡ codes "read\n")
IsBatchDue batch before after statuses.Memory line = line ≡ codes "memory\n"
IsBatchDue batch before after statuses.TooLarge line =
    ReadsTooMuchOfGroups before (file_groups batch) × (line ≡ codes "toolarge\n")
IsBatchDue batch before after status line =
    (contents : List (List (List ℕ))) × MayReadGroups before (file_groups batch) contents
    × IsBatchAnswer batch contents status line

-- The line is due at that status of words: of those of `batch`, or of any other.
abbrev pub IsDueOfAny : List (List ℕ) → FilesState → FilesState → Status → List ℕ → Type 0
IsDueOfAny words before after status line =
    ((batch : BatchCommand) × IsBatchCommand words batch × IsBatchDue batch before after status line)
    ⊎ IsDue words before after status line
