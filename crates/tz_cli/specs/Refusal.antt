-- Why a command has no text, and what it prints in the place of one.
use Rattle.std.specs.Prelude.{ℕ, ◌<◌, ◌⊎◌, List, length, Result, Ok, Err, Vec, codes}
use Rattle.std.specs.declared.alloc.Global.{Global}
use Rattle.tz_types.specs.declared.source.Source.{Source}
use Rattle.tz_cli.specs.Line.{fault_line}
use Rattle.tz_lookup.specs.declared.found.Found.TheVariants as found
use Rattle.tz_cli.specs.FoundLine.{found_line}
use Rattle.tz_specs.specs.Reads as texts
use Rattle.tz_io.specs.Files.{FilesState, FileFailed}
use Rattle.tz_cli.specs.Outcome.{MayRead, FailsToRead, ReadsTooMuch, Exactly}
use Rattle.tz_words.specs.declared.status.Status.{Status}
use Rattle.tz_words.specs.declared.status.Status.TheVariants as statuses
use Rattle.tz_cli.specs.declared.refusal.Refusal.{Refusal}
use Rattle.tz_cli.specs.declared.refusal.Refusal.TheVariants as refusals

-- the status of a refusal
abbrev pub refusal_status : Refusal → Status
refusal_status refusals.Read = statuses.Read
refusal_status refusals.TooLarge = statuses.TooLarge
refusal_status (refusals.Text fault) = statuses.Text
refusal_status (refusals.Leaps fault) = statuses.Text
refusal_status (refusals.Script fault) = statuses.Script
refusal_status refusals.NoZone = statuses.NoZone
refusal_status refusals.Range = statuses.Range
refusal_status refusals.Types = statuses.Types
refusal_status refusals.Designations = statuses.Designations
refusal_status refusals.Memory = statuses.Memory

-- its line
abbrev pub refusal_line : Refusal → List ℕ
refusal_line refusals.Read = codes "read\n"
refusal_line refusals.TooLarge = codes "toolarge\n"
refusal_line (refusals.Text fault) = fault_line (codes "text") fault
refusal_line (refusals.Leaps fault) = fault_line (codes "leaps") fault
refusal_line (refusals.Script fault) =
    fault_line (codes "script") (record { file = 0; line = fault.line; cause = fault.cause })
refusal_line refusals.NoZone = found_line found.NoZone
refusal_line refusals.Range = found_line found.Range
refusal_line refusals.Types = codes "types\n"
refusal_line refusals.Designations = codes "designations\n"
refusal_line refusals.Memory = codes "memory\n"

-- Want of memory may come at any time; any other refusal has a reason: its status and its line are an answer.
abbrev pub IsRefusal : (Status → List ℕ → Type 0) → Refusal → Type 0
IsRefusal answers refusals.Memory = Unit {0}
IsRefusal answers refusal = answers (refusal_status refusal) (refusal_line refusal)

-- What a step comes to, a text or a refusal, is one of these answers.
abbrev pub Gives : (Status → List ℕ → Type 0) → Result (Vec ℕ Global) Refusal → Type 0
Gives answers (Ok line) = answers statuses.Ok line.items
Gives answers (Err refusal) = IsRefusal answers refusal

-- want of memory, or the source is refused
abbrev pub RefusesAsText : Source → Refusal → Type 0
RefusesAsText source refusals.Memory = Unit {0}
RefusesAsText source (refusals.Text fault) = texts.Refuses source fault
RefusesAsText source _ = ⊥

-- want of memory, or out of range for that reason
abbrev pub RefusesRange : Type 0 → Refusal → Type 0
RefusesRange reason refusals.Memory = Unit {0}
RefusesRange reason refusals.Range = reason
RefusesRange reason _ = ⊥

-- want of memory, or a file gave no content, or the files gave too much
abbrev pub RefusesContents : FilesState → FilesState → List (List ℕ) → Refusal → Type 0
RefusesContents before after names refusals.Memory = Unit {0}
RefusesContents before after names refusals.Read = FailsToRead before after names
RefusesContents before after names refusals.TooLarge = (contents : List (List ℕ)) × ReadsTooMuch before names contents
RefusesContents before after names _ = ⊥

-- want of memory, or the file gave no content, or one of more bytes than were left
abbrev pub RefusesFile : FilesState → FilesState → List ℕ → ℕ → Refusal → Type 0
RefusesFile before after name left refusals.Memory = Unit {0}
RefusesFile before after name left refusals.Read = FileFailed before after name
RefusesFile before after name left refusals.TooLarge =
    (content : List ℕ) × MayRead before name content × (left < length content)
RefusesFile before after name left _ = ⊥

-- The line of the refusal is due at its status, or where memory ran out for it, the line that says so.
abbrev pub TellsRefusal : Refusal → Status → List ℕ → Type 0
TellsRefusal refusal status line =
    Exactly (refusal_status refusal) (refusal_line refusal) status line
    ⊎ Exactly statuses.Memory (codes "memory\n") status line
