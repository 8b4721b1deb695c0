-- What is due of a batch, and which status is.
use Rattle.std.proofs.Common.{◌≡◌, ℕ, ◌⊎◌, inl, inr, List, Result, Ok, Err, Vec, refl, sym, ◌∙◌, subst}
use Rattle.std.proofs.lemmas.Bool.{true≢false}
use Rattle.std.specs.declared.alloc.Global.{Global}
use Rattle.tz_version.specs.declared.sources.Sources.{Sources}
use Rattle.tz_batch.specs.declared.outcome.Outcome.{Outcome}
use Rattle.tz_io.specs.Files.{FilesState}
use Rattle.tz_io.specs.Sink.{SinkState, with_bytes}
use Rattle.tz_batch.specs.OutcomeText.{outcome_text}
use Rattle.tz_words.specs.BatchCommand.{BatchCommand}
use Rattle.tz_cli.specs.Outcome.{Prints}
use Rattle.tz_cli.specs.Refusal.{IsRefusal, Gives, TellsRefusal, refusal_status, refusal_line}
use Rattle.tz_words.specs.declared.status.Status.{Status}
use Rattle.tz_words.specs.declared.status.Status.TheVariants as statuses
use Rattle.tz_cli.specs.declared.refusal.Refusal.{Refusal}
use Rattle.tz_cli.specs.declared.refusal.Refusal.TheVariants as refusals
use Rattle.tz_top.specs.Groups.{HoldsGroups, AnyFailed}
use Rattle.tz_top.specs.BatchTexts.{file_groups, AreReadTexts}
use Rattle.tz_top.specs.BatchAnswer.{BatchAnswers, IsBatchAnswer, IsAcceptedBatch}
use Rattle.tz_top.specs.Due.{IsOutcomeOf, IsBatchDue}
use Rattle.tz_top.proofs.Groups.{same_groups, too_large_groups, some_group_failed}
use Rattle.tz_top.proofs.Once.{batch_once, large_once, accepted_once}

-- what is an answer over the texts that were read is due
answer_due : (batch : BatchCommand) (before after : FilesState) (text : List ℕ) (sources : Sources) (status : Status) (line : List ℕ) → AreReadTexts before batch text sources → BatchAnswers batch.slots text sources status line → IsBatchDue batch before after status line
answer_due batch before after text sources statuses.Ok line read answers =
    (read.contents, read.read, record { few_bytes = read.few_bytes; text = text; sources = sources; are = read.are; answers = answers })
answer_due batch before after text sources statuses.Script line read answers =
    (read.contents, read.read, record { few_bytes = read.few_bytes; text = text; sources = sources; are = read.are; answers = answers })
answer_due batch before after text sources statuses.Text line read answers =
    (read.contents, read.read, record { few_bytes = read.few_bytes; text = text; sources = sources; are = read.are; answers = answers })
answer_due batch before after text sources status line read answers = absurd answers

pub gives_due : (batch : BatchCommand) (before after : FilesState) (text : List ℕ) (sources : Sources) (result : Result (Vec ℕ Global) Refusal) → AreReadTexts before batch text sources → Gives (BatchAnswers batch.slots text sources) result → Gives (IsBatchDue batch before after) result
gives_due batch before after text sources (Ok line) read given = answer_due batch before after text sources statuses.Ok line.items read given
gives_due batch before after text sources (Err refusals.Memory) read given = tt
gives_due batch before after text sources (Err refusal) read given = answer_due batch before after text sources (refusal_status refusal) (refusal_line refusal) read given

-- the line of a refusal is due at its status
refusal_due : (batch : BatchCommand) (before after : FilesState) (refusal : Refusal) → IsRefusal (IsBatchDue batch before after) refusal → IsBatchDue batch before after (refusal_status refusal) (refusal_line refusal)
refusal_due batch before after refusals.Memory refused = refl
refusal_due batch before after refusal refused = refused

-- what a refusal tells is due
pub refusal_told : (batch : BatchCommand) (before after : FilesState) (refusal : Refusal) → IsRefusal (IsBatchDue batch before after) refusal → (status : Status) (line : List ℕ) → TellsRefusal refusal status line → IsBatchDue batch before after status line
refusal_told batch before after refusal refused status line told =
    elim told [
      | inl whole ↦ rw (whole.0, whole.1) (refusal_due batch before after refusal refused)
      | inr late ↦ rw (late.0, late.1) refl
    ]

-- what a batch printed since an earlier time at which the files and the sink stood as they did
pub printed_since : (batch meant : BatchCommand) (before here after : FilesState) (had between has : SinkState) (status : Status) → meant ≡ batch → here ≡ before → between ≡ had → Prints (IsBatchDue meant here after) status between has → Prints (IsBatchDue batch before after) status had has
printed_since batch meant before here after had between has status same unread unwritten printed =
    let of_batch = subst (λ (it : BatchCommand). Prints (IsBatchDue it here after) status between has) same printed in
    let since = subst (λ (files : FilesState). Prints (IsBatchDue batch files after) status between has) unread of_batch in
    subst (λ (sink : SinkState). Prints (IsBatchDue batch before after) status sink has) unwritten since

-- what is due at 0 is the text of an outcome
pub outcome_due : (batch : BatchCommand) (before after : FilesState) (line : List ℕ) (had has : SinkState) → IsBatchDue batch before after statuses.Ok line → has ≡ with_bytes had line → (outcome : Outcome) × IsOutcomeOf batch before outcome × (has ≡ with_bytes had (outcome_text outcome))
outcome_due batch before after line had has due printed =
    let over = due.2 in (
      over.answers.0,
      record {
        text = over.text;
        sources = over.sources;
        read = record { contents = due.0; read = due.1; few_bytes = over.few_bytes; are = over.are };
        is = over.answers.1;
      },
      subst (λ (line : List ℕ). has ≡ with_bytes had line) over.answers.2 printed,
    )

-- where no read failed, one status is due beside want of memory
pub one_batch_due : (batch : BatchCommand) (before after : FilesState) (contents : List (List (List ℕ))) (status due : Status) (line printed : List ℕ) → HoldsGroups before (file_groups batch) contents → IsBatchAnswer batch contents status line → (AnyFailed before after (file_groups batch) → ⊥) → IsBatchDue batch before after due printed → (due ≡ status) ⊎ (due ≡ statuses.Memory)
one_batch_due batch before after contents status statuses.Read line printed are answer fine due =
    absurd (fine (some_group_failed before after (file_groups batch) due.0))
one_batch_due batch before after contents status statuses.Memory line printed are answer fine due = inr refl
one_batch_due batch before after contents status statuses.TooLarge line printed are answer fine due =
    inl (large_once batch contents status line (too_large_groups before (file_groups batch) contents are due.0) answer)
one_batch_due batch before after contents status other line printed are answer fine due =
    let same = same_groups before (file_groups batch) contents due.0 are due.1 in
    let here : IsBatchAnswer batch contents other printed = subst (λ (read : List (List (List ℕ))). IsBatchAnswer batch read other printed) same due.2 in
    inl (batch_once batch contents other status printed line here answer)

-- where no read failed and the contents are accepted, 0 is due beside want of memory
pub accepted_due : (batch : BatchCommand) (before after : FilesState) (contents : List (List (List ℕ))) (due : Status) (printed : List ℕ) → HoldsGroups before (file_groups batch) contents → IsAcceptedBatch batch contents → (AnyFailed before after (file_groups batch) → ⊥) → IsBatchDue batch before after due printed → (due ≡ statuses.Ok) ⊎ (due ≡ statuses.Memory)
accepted_due batch before after contents statuses.Read printed are accepted fine due =
    absurd (fine (some_group_failed before after (file_groups batch) due.0))
accepted_due batch before after contents statuses.Memory printed are accepted fine due = inr refl
accepted_due batch before after contents statuses.TooLarge printed are accepted fine due =
    absurd (true≢false (sym (too_large_groups before (file_groups batch) contents are due.0) ∙ accepted.few_bytes))
accepted_due batch before after contents other printed are accepted fine due =
    let same = same_groups before (file_groups batch) contents due.0 are due.1 in
    let here : IsBatchAnswer batch contents other printed = subst (λ (read : List (List (List ℕ))). IsBatchAnswer batch read other printed) same due.2 in
    inl (accepted_once batch contents other printed accepted here)
