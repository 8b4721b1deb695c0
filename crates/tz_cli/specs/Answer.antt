-- What a command answers over the contents of the files that it reads.
use Rattle.std.specs.Prelude.{◌≡◌, ℕ, ◌<◌, ◌≤◌, Bool, true, false, List, codes}
use Rattle.std.specs.List.{concat}
use Rattle.tz_types.specs.declared.limit.TheConstants.{MOST_BYTES}
use Rattle.tz_types.specs.Source.{bytes_together}
use Rattle.tz_types.specs.declared.source.Source.{Source}
use Rattle.tz_words.specs.NamedText.{NamedText, IsSourceOf}
use Rattle.tz_words.specs.Command.{Command, Info, Local, Moves, Days, Tzif, Dump, Check, Clock}
use Rattle.tz_cli.specs.Lookup.{InfoAnswers, LocalAnswers, ClockAnswers}
use Rattle.tz_cli.specs.Moves.{MovesAnswers}
use Rattle.tz_cli.specs.Days.{DaysAnswers}
use Rattle.tz_cli.specs.Tzif.{TzifAnswers}
use Rattle.tz_cli.specs.Dump.{DumpAnswers, asked_for}
use Rattle.tz_cli.specs.Check.{CheckAnswers}
use Rattle.tz_words.specs.declared.status.Status.{Status}
use Rattle.tz_words.specs.declared.status.Status.TheVariants as statuses

-- It holds of the source of the text named, whose files have these contents.
abbrev pub OfSource : NamedText → List (List ℕ) → (Source → Type 0) → Type 0
OfSource text contents holds = (source : Source) × IsSourceOf text contents source × holds source

-- The statuses of a command over contents that aren't too large, each with its line and its reason. The leap text of
-- `clock` is what its file has, and no bytes where it has none.
abbrev pub TextAnswers : Command → List (List ℕ) → Status → List ℕ → Type 0
TextAnswers (Info text zone instant) contents status line =
    OfSource text contents (λ source. InfoAnswers source zone instant status line)
TextAnswers (Local text zone l choice) contents status line =
    OfSource text contents (λ source. LocalAnswers source zone l choice status line)
TextAnswers (Moves text zone from to) contents status line =
    OfSource text contents (λ source. MovesAnswers source zone from to status line)
TextAnswers (Days text zone first count) contents status line =
    OfSource text contents (λ source. DaysAnswers source zone first count status line)
TextAnswers (Tzif text zone first last) contents status line =
    OfSource text contents (λ source. TzifAnswers source zone first last status line)
TextAnswers (Dump text from to zone) contents status line =
    OfSource text contents (λ source. DumpAnswers source from to (asked_for zone) status line)
TextAnswers (Check text) contents status line =
    OfSource text contents (λ source. CheckAnswers source status line)
TextAnswers (Clock leaps conversion number) contents status line =
    ClockAnswers (concat contents) conversion number status line

-- the same over any contents: where they are too large together, that is the one answer
abbrev pub IsAnswer : Command → List (List ℕ) → Status → List ℕ → Type 0
IsAnswer command contents statuses.TooLarge line =
    (MOST_BYTES < bytes_together contents) × (line ≡ codes "toolarge\n")
IsAnswer command contents status line =
    (bytes_together contents ≤ MOST_BYTES) × TextAnswers command contents status line

-- The command prints what it has made before it makes the rest.
abbrev pub comes_in_pieces : Command → Bool
comes_in_pieces (Info text zone instant) = false
comes_in_pieces (Local text zone l choice) = false
comes_in_pieces (Moves text zone from to) = false
comes_in_pieces (Days text zone first count) = false
comes_in_pieces (Tzif text zone first last) = false
comes_in_pieces (Dump text from to zone) = true
comes_in_pieces (Check text) = false
comes_in_pieces (Clock leaps conversion number) = false
