-- What `batch` answers over the contents of the files that it reads.
use Rattle.std.specs.Prelude.{◌≡◌, ℕ, ◌⊎◌, List, length, codes, IsTrue, IsFalse}
use Rattle.tz_types.specs.declared.fault.Fault.{Fault}
use Rattle.tz_types.specs.declared.fault.LineFault.{LineFault}
use Rattle.tz_script.specs.Script.{ReadsScript, RefusesScript}
use Rattle.tz_script.specs.declared.script.Script.{Script}
use Rattle.tz_version.specs.Refusal.{RefusesSource}
use Rattle.tz_version.specs.declared.sources.Sources.{Sources}
use Rattle.tz_batch.specs.Answering.{IsAccepted}
use Rattle.tz_batch.specs.OutcomeText.{outcome_text}
use Rattle.tz_batch.specs.Positions.{PositionsCountWrites}
use Rattle.tz_batch.specs.Run.{IsRun}
use Rattle.tz_batch.specs.declared.outcome.Outcome.{Outcome}
use Rattle.tz_words.specs.BatchCommand.{BatchCommand}
use Rattle.tz_cli.specs.Lookup.{IsLeapRefusal}
use Rattle.tz_cli.specs.Line.{fault_line}
use Rattle.tz_words.specs.declared.status.Status.{Status}
use Rattle.tz_words.specs.declared.status.Status.TheVariants as statuses
use Rattle.tz_top.specs.BatchTexts.{AreTextsOf}
use Rattle.tz_top.specs.Groups.{is_too_large}

-- The text reads as a script that may name these sources, a version is made of the first source, and the outcome is one
-- that a run of the script may give, over the sources and in a list of so many slots, one operation after another.
pub record IsBatchOutcome (slots : ℕ) (text : List ℕ) (sources : Sources) (outcome : Outcome) : Type 0 where
  pub script : Script
  pub reads : ReadsScript (length sources.texts) text script
  pub opens : IsAccepted sources 0
  pub run : IsRun script sources slots outcome
  pub positions : PositionsCountWrites script.lanes outcome.replies

-- The text is refused as a script that may name so many sources, and the line says with which fault.
abbrev pub IsScriptRefusal : ℕ → List ℕ → List ℕ → Type 0
IsScriptRefusal sources text line =
    (fault : LineFault) × RefusesScript sources text fault
    × (line ≡ fault_line (codes "script") (record { file = 0; line = fault.line; cause = fault.cause }))

-- The leap text is accepted and the first source refused, and the line says with which fault.
abbrev pub IsFirstRefusal : Sources → List ℕ → Type 0
IsFirstRefusal sources line =
    (fault : Fault) × RefusesSource sources 0 fault × (line ≡ fault_line (codes "text") fault)

-- The script is read, but no version is made of the first source: the leap text is refused, or else that source is.
pub record IsOpeningRefusal (text : List ℕ) (sources : Sources) (line : List ℕ) : Type 0 where
  pub script : Script
  pub reads : ReadsScript (length sources.texts) text script
  pub refused : IsLeapRefusal sources.leaps line ⊎ IsFirstRefusal sources line

-- The statuses of `batch` over the text of its script and its sources, each with what it prints and its reason.
abbrev pub BatchAnswers : ℕ → List ℕ → Sources → Status → List ℕ → Type 0
BatchAnswers slots text sources statuses.Ok printed =
    (outcome : Outcome) × IsBatchOutcome slots text sources outcome × (printed ≡ outcome_text outcome)
BatchAnswers slots text sources statuses.Script line = IsScriptRefusal (length sources.texts) text line
BatchAnswers slots text sources statuses.Text line = IsOpeningRefusal text sources line
BatchAnswers slots text sources _ line = ⊥

-- the contents, none of which are too large, are a script's text and sources of which that is an answer
pub record AnswersOver (batch : BatchCommand) (contents : List (List (List ℕ))) (status : Status) (line : List ℕ) : Type 0 where
  pub few_bytes : IsFalse (is_too_large contents)
  pub text : List ℕ
  pub sources : Sources
  pub are : AreTextsOf batch contents text sources
  pub answers : BatchAnswers batch.slots text sources status line

-- the same over any contents: where those of some group are too large together, that is the one answer
abbrev pub IsBatchAnswer : BatchCommand → List (List (List ℕ)) → Status → List ℕ → Type 0
IsBatchAnswer batch contents statuses.TooLarge line =
    IsTrue (is_too_large contents) × (line ≡ codes "toolarge\n")
IsBatchAnswer batch contents status line = AnswersOver batch contents status line

-- The contents, none of which are too large, are the text of a script that is read, and sources of the first of which a
-- version is made.
pub record IsAcceptedBatch (batch : BatchCommand) (contents : List (List (List ℕ))) : Type 0 where
  pub few_bytes : IsFalse (is_too_large contents)
  pub text : List ℕ
  pub sources : Sources
  pub are : AreTextsOf batch contents text sources
  pub script : Script
  pub reads : ReadsScript (length sources.texts) text script
  pub opens : IsAccepted sources 0
