-- What is due at each status, and what is printed.
use Rattle.std.specs.Prelude.{◌≡◌, ℕ, ◌<◌, ◌≤◌, ◌⊎◌, List, ◌∷◌, ◌++◌, take, Some, IfSome, IsSomeAnd, IsTrue, codes}
use Rattle.std.specs.List.{AllZip}
use Rattle.tz_types.specs.declared.limit.TheConstants.{MOST_BYTES}
use Rattle.tz_types.specs.Source.{bytes_together}
use Rattle.tz_io.specs.Files.{FilesState, FileFailed}
use Rattle.tz_io.specs.Sink.{SinkState, with_bytes, Stops}
use Rattle.tz_words.specs.Command.{Command, IsCommand, IsNoCommand, files_of}
use Rattle.tz_words.specs.declared.status.Status.{Status}
use Rattle.tz_words.specs.declared.status.Status.TheVariants as statuses
use Rattle.tz_cli.specs.Answer.{IsAnswer, comes_in_pieces}

-- The files tell that this is the content of the name.
abbrev pub Holds : FilesState → List ℕ → List ℕ → Type 0
Holds files name content = IsSomeAnd files.contents (λ contents. contents name ≡ Some content)

-- The content may be what was read of the name. Of files that don't tell what they hold, any may be.
abbrev pub MayRead : FilesState → List ℕ → List ℕ → Type 0
MayRead files name content = IfSome files.contents (λ contents. contents name ≡ Some content)

-- The contents may be what was read of the names, each of its own.
abbrev pub MayReadAll : FilesState → List (List ℕ) → List (List ℕ) → Type 0
MayReadAll files names contents = AllZip (MayRead files) names contents

-- Files are read one after another: those before this name may have these contents, which aren't too large together.
pub record ReadsUpTo (files : FilesState) (names : List (List ℕ)) (name : List ℕ) : Type 0 where
  pub first : List (List ℕ)
  pub later : List (List ℕ)
  pub names_are : names ≡ first ++ name ∷ later
  pub contents : List (List ℕ)
  pub read : MayReadAll files first contents
  pub few_bytes : bytes_together contents ≤ MOST_BYTES

-- A read fails of the first file that isn't read.
abbrev pub FailsToRead : FilesState → FilesState → List (List ℕ) → Type 0
FailsToRead before after names = (name : List ℕ) × ReadsUpTo before names name × FileFailed before after name

-- Some first files of the names may have these contents, which are too large together.
pub record ReadsTooMuch (files : FilesState) (names contents : List (List ℕ)) : Type 0 where
  pub first : List (List ℕ)
  pub later : List (List ℕ)
  pub names_are : names ≡ first ++ later
  pub read : MayReadAll files first contents
  pub many_bytes : MOST_BYTES < bytes_together contents

-- Memory ran out: the line says so alone, or behind a first part of the text of a command that comes in pieces.
abbrev pub IsMemoryLine : Command → FilesState → List ℕ → Type 0
IsMemoryLine command files line =
    (line ≡ codes "memory\n")
    ⊎ (IsTrue (comes_in_pieces command)
    × (contents : List (List ℕ)) × MayReadAll files (files_of command) contents
    × (text : List ℕ) × IsAnswer command contents statuses.Ok text
    × (count : ℕ) × (line ≡ take count text ++ codes "memory\n"))

-- The line is due at that status of a command, by the files before and after.
abbrev pub IsDueFor : Command → FilesState → FilesState → Status → List ℕ → Type 0
IsDueFor command before after statuses.Read line =
    FailsToRead before after (files_of command) × (line ≡ codes "read\n")
IsDueFor command before after statuses.Memory line = IsMemoryLine command before line
IsDueFor command before after statuses.TooLarge line =
    (contents : List (List ℕ)) × ReadsTooMuch before (files_of command) contents × (line ≡ codes "toolarge\n")
IsDueFor command before after status line =
    (contents : List (List ℕ)) × MayReadAll before (files_of command) contents × IsAnswer command contents status line

-- The line is due at that status of a command line.
abbrev pub IsDue : List (List ℕ) → FilesState → FilesState → Status → List ℕ → Type 0
IsDue words before after statuses.Usage line = IsNoCommand words × (line ≡ codes "usage\n")
IsDue words before after status line =
    (command : Command) × IsCommand words command × IsDueFor command before after status line

-- What a command that ends with that status printed, where these lines are due at these statuses: at `Write` a first part
-- of a line, and then an error of the sink was counted; at any other a whole line, and nothing was counted.
abbrev pub Prints : (Status → List ℕ → Type 0) → Status → SinkState → SinkState → Type 0
Prints due statuses.Write before after =
    (status : Status) × (line : List ℕ) × due status line × Stops before after line
Prints due status before after = (line : List ℕ) × due status line × (after ≡ with_bytes before line)

-- that line alone is due, at that status alone
abbrev pub Exactly : Status → List ℕ → Status → List ℕ → Type 0
Exactly status line at due = (at ≡ status) × (due ≡ line)
