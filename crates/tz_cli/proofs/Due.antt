-- What is due at a status, and which status is.
use Rattle.std.proofs.Common.{◌≡◌, ℕ, ◌<◌, List, ◌⊎◌, inl, inr, refl, sym, subst, arith}
use Rattle.std.specs.List.{AllZip, Any}
use Rattle.tz_types.specs.declared.limit.TheConstants.{MOST_BYTES}
use Rattle.tz_types.specs.Source.{bytes_together}
use Rattle.tz_io.specs.Files.{FilesState, FileFailed}
use Rattle.tz_words.specs.Command.{Command, Info, Local, Moves, Days, Tzif, Dump, Check, Clock, IsCommand, files_of}
use Rattle.tz_cli.specs.Answer.{TextAnswers, IsAnswer}
use Rattle.tz_cli.specs.Outcome.{Holds, IsDueFor, IsDue}
use Rattle.tz_cli.specs.Refusal.{IsRefusal, refusal_status, refusal_line, TellsRefusal}
use Rattle.tz_words.specs.declared.status.Status.{Status}
use Rattle.tz_words.specs.declared.status.Status.TheVariants as statuses
use Rattle.tz_cli.specs.declared.refusal.Refusal.{Refusal}
use Rattle.tz_cli.specs.declared.refusal.Refusal.TheVariants as refusals
use Rattle.tz_cli.proofs.Contents.{same_contents, too_much, some_failed}
use Rattle.tz_cli.proofs.Lookups.{never_usage}
use Rattle.tz_cli.proofs.Once.{once, sized}

-- no command answers that the words are those of none
no_usage : (command : Command) (contents : List (List ℕ)) (line : List ℕ) → TextAnswers command contents statuses.Usage line → ⊥
no_usage (Info text zone t) contents line answer = never_usage answer.2.1.is.0 answer.2.1.is.2
no_usage (Local text zone l choice) contents line answer = never_usage answer.2.1.is.0 answer.2.1.is.2
no_usage (Moves text zone from to) contents line answer = answer.2.1.is
no_usage (Days text zone first count) contents line answer = answer.2.1.is
no_usage (Tzif text zone first last) contents line answer = answer.2.1.is
no_usage (Dump text from to zone) contents line answer = answer.2.1
no_usage (Check text) contents line answer = answer.2
no_usage (Clock leaps conversion number) contents line answer = never_usage answer.0 answer.2

pub usage_not_due : (command : Command) (before after : FilesState) (line : List ℕ) → IsDueFor command before after statuses.Usage line → ⊥
usage_not_due command before after line due = no_usage command due.0 line due.2.1

-- what is due for a command is due for its words
pub for_words : (words : List (List ℕ)) (before after : FilesState) (command : Command) (status : Status) (line : List ℕ) → IsCommand words command → IsDueFor command before after status line → IsDue words before after status line
for_words words before after command statuses.Usage line is due =
    absurd (usage_not_due command before after line due)
for_words words before after command status line is due = (command, is, due)

-- the line of a refusal is due at its status
refusal_due : (command : Command) (before after : FilesState) (refusal : Refusal) → IsRefusal (IsDueFor command before after) refusal → IsDueFor command before after (refusal_status refusal) (refusal_line refusal)
refusal_due command before after refusals.Memory refused = inl refl
refusal_due command before after refusal refused = refused

-- what a refusal tells is due
pub refusal_told : (command : Command) (before after : FilesState) (refusal : Refusal) → IsRefusal (IsDueFor command before after) refusal → (status : Status) (line : List ℕ) → TellsRefusal refusal status line → IsDueFor command before after status line
refusal_told command before after refusal refused status line told =
    elim told [
      | inl whole ↦ rw (whole.0, whole.1) (refusal_due command before after refusal refused)
      | inr late ↦ rw (late.0, late.1) (inl refl)
    ]

-- over contents that are too large together, that is the status
large_status : (command : Command) (contents : List (List ℕ)) (status : Status) (line : List ℕ) → MOST_BYTES < bytes_together contents → IsAnswer command contents status line → statuses.TooLarge ≡ status
large_status command contents status line large answer =
    elim (sized command contents status line answer) [
      | inl is ↦ sym is.0
      | inr short ↦ absurd (omega (arith, large, short.0))
    ]

-- where no read failed, one status is due beside want of memory
pub one_due : (command : Command) (before after : FilesState) (contents : List (List ℕ)) (status due : Status) (line printed : List ℕ) → AllZip (Holds before) (files_of command) contents → IsAnswer command contents status line → (Any (FileFailed before after) (files_of command) → ⊥) → IsDueFor command before after due printed → (due ≡ status) ⊎ (due ≡ statuses.Memory)
one_due command before after contents status statuses.Read line printed are answer fine due =
    absurd (fine (some_failed before after (files_of command) due.0))
one_due command before after contents status statuses.Memory line printed are answer fine due = inr refl
one_due command before after contents status statuses.TooLarge line printed are answer fine due =
    inl (large_status command contents status line (too_much before (files_of command) contents due.0 are due.1) answer)
one_due command before after contents status other line printed are answer fine due =
    let same = same_contents before (files_of command) contents due.0 are due.1 in
    let here : IsAnswer command contents other printed = subst (λ (read : List (List ℕ)). IsAnswer command read other printed) same due.2 in
    inl (once command contents other status printed line here answer)
