-- Commands, and the words of a command line that stand for them.
use Rattle.std.specs.Prelude.{◌≡◌, ℕ, nat_eq, List, [], ◌∷◌, codes, ℤ, Option, Some, option_map, if◌then◌else◌, String, string_bytes, map}
use Rattle.std.specs.Cmp.Lexicographic.{pointwise}
use Rattle.std.specs.declared.alloc.Global.{Global}
use Rattle.std.specs.Option.{option_and_then}
use Rattle.tz_types.specs.Civil.{is_from_to}
use Rattle.tz_specs.specs.Choice.{only_if}
use Rattle.tz_specs.specs.Number.{number_of, signed_number_of}
use Rattle.tz_lookup.specs.Choice.{choice_word}
use Rattle.tz_lookup.specs.Conversion.{conversion_word}
use Rattle.tz_lookup.specs.declared.choice.Choice.{Choice}
use Rattle.tz_lookup.specs.declared.conversion.Conversion.{Conversion}
use Rattle.tz_text.specs.LocalTime.{local_time_of}
use Rattle.tz_words.specs.NamedText.{NamedText, named_text_of, parts_of}
use Rattle.tz_words.specs.BatchCommand.{BatchCommand, IsBatchCommand, texts_in}
use Rattle.tz_words.specs.declared.batch_line.BatchLine.{BatchLine}
use Rattle.tz_words.specs.declared.words.TheConstants.{MOST_DAYS}
use Rattle.tz_words.specs.declared.text_word.TextWord.{TextWord}
use Rattle.tz_words.specs.declared.command_line.CommandLine.{CommandLine}
use Rattle.tz_words.specs.declared.command_line.CommandLine.TheVariants as lines

-- the words as lists of bytes
abbrev pub words_of : List (String Global) → List (List ℕ)
words_of words = map string_bytes words

-- A command: `info` with the text named, a zone's name and an instant; `local` with the text named, a zone's name, a
-- local time and a choice; `moves` with the text named, a zone's name and the two ends of a stretch; `days` with the
-- text named, a zone's name, a day and how many there are from it on; `tzif` with the text named, a zone's name and
-- two years; `dump` with the text named, the two ends of a stretch and the word for a zone or for all; `check` with
-- the text named; `clock` with the file of a leap text, a conversion and a number.
pub data Command : Type 0 where
  Info : NamedText → List ℕ → ℤ → Command
  Local : NamedText → List ℕ → ℤ → Choice → Command
  Moves : NamedText → List ℕ → ℤ → ℤ → Command
  Days : NamedText → List ℕ → ℤ → ℕ → Command
  Tzif : NamedText → List ℕ → ℤ → ℤ → Command
  Dump : NamedText → ℤ → ℤ → List ℕ → Command
  Check : NamedText → Command
  Clock : List ℕ → Conversion → ℤ → Command

-- The words are `info TEXT ZONE T`. A number is an optional `-` and 1 to 15 digits.
pub record IsInfo (words : List (List ℕ)) (text : NamedText) (zone : List ℕ) (instant : ℤ) : Type 0 where
  pub word : List ℕ
  pub number : List ℕ
  pub words_are : words ≡ codes "info" ∷ word ∷ zone ∷ number ∷ []
  pub text_is : named_text_of word ≡ Some text
  pub number_is : signed_number_of 1 15 number ≡ Some instant

-- The words are `local TEXT ZONE L CHOICE`. L is a number or a civil date and time of day.
pub record IsLocalCommand (words : List (List ℕ)) (text : NamedText) (zone : List ℕ) (l : ℤ) (choice : Choice) : Type 0 where
  pub word : List ℕ
  pub time : List ℕ
  pub words_are : words ≡ codes "local" ∷ word ∷ zone ∷ time ∷ choice_word choice ∷ []
  pub text_is : named_text_of word ≡ Some text
  pub time_is : local_time_of time ≡ Some l

-- The words are `moves TEXT ZONE FROM TO`.
pub record IsMovesCommand (words : List (List ℕ)) (text : NamedText) (zone : List ℕ) (from to : ℤ) : Type 0 where
  pub word : List ℕ
  pub first : List ℕ
  pub last : List ℕ
  pub words_are : words ≡ codes "moves" ∷ word ∷ zone ∷ first ∷ last ∷ []
  pub text_is : named_text_of word ≡ Some text
  pub first_is : signed_number_of 1 15 first ≡ Some from
  pub last_is : signed_number_of 1 15 last ≡ Some to

-- how many days a word asks for: 1 to 15 digits, whose value is from 1 to the most
abbrev pub day_count_of : List ℕ → Option ℕ
day_count_of word = option_and_then (λ count. only_if (is_from_to 1 MOST_DAYS count) count) (number_of 1 15 word)

-- The words are `days TEXT ZONE FIRST COUNT`.
pub record IsDaysCommand (words : List (List ℕ)) (text : NamedText) (zone : List ℕ) (first : ℤ) (count : ℕ) : Type 0 where
  pub word : List ℕ
  pub number : List ℕ
  pub many : List ℕ
  pub words_are : words ≡ codes "days" ∷ word ∷ zone ∷ number ∷ many ∷ []
  pub text_is : named_text_of word ≡ Some text
  pub number_is : signed_number_of 1 15 number ≡ Some first
  pub count_is : day_count_of many ≡ Some count

-- a year of a command: an optional `-` and 1 to 4 digits
abbrev pub short_year_of : List ℕ → Option ℤ
short_year_of word = signed_number_of 1 4 word

-- The words are `tzif TEXT ZONE FIRST LAST`.
pub record IsTzifCommand (words : List (List ℕ)) (text : NamedText) (zone : List ℕ) (first last : ℤ) : Type 0 where
  pub word : List ℕ
  pub begins : List ℕ
  pub ends : List ℕ
  pub words_are : words ≡ codes "tzif" ∷ word ∷ zone ∷ begins ∷ ends ∷ []
  pub text_is : named_text_of word ≡ Some text
  pub first_is : short_year_of begins ≡ Some first
  pub last_is : short_year_of ends ≡ Some last

-- The words are `dump TEXT FROM TO ZONE`.
pub record IsDumpCommand (words : List (List ℕ)) (text : NamedText) (from to : ℤ) (zone : List ℕ) : Type 0 where
  pub word : List ℕ
  pub first : List ℕ
  pub last : List ℕ
  pub words_are : words ≡ codes "dump" ∷ word ∷ first ∷ last ∷ zone ∷ []
  pub text_is : named_text_of word ≡ Some text
  pub first_is : signed_number_of 1 15 first ≡ Some from
  pub last_is : signed_number_of 1 15 last ≡ Some to

-- The words are `check TEXT`.
pub record IsCheck (words : List (List ℕ)) (text : NamedText) : Type 0 where
  pub word : List ℕ
  pub words_are : words ≡ codes "check" ∷ word ∷ []
  pub text_is : named_text_of word ≡ Some text

-- The words are `clock LEAPS CONV X`.
pub record IsClock (words : List (List ℕ)) (leaps : List ℕ) (conversion : Conversion) (count : ℤ) : Type 0 where
  pub number : List ℕ
  pub words_are : words ≡ codes "clock" ∷ leaps ∷ conversion_word conversion ∷ number ∷ []
  pub number_is : signed_number_of 1 15 number ≡ Some count

-- the words are those of that command
abbrev pub IsCommand : List (List ℕ) → Command → Type 0
IsCommand words (Info text zone instant) = IsInfo words text zone instant
IsCommand words (Local text zone l choice) = IsLocalCommand words text zone l choice
IsCommand words (Moves text zone from to) = IsMovesCommand words text zone from to
IsCommand words (Days text zone first count) = IsDaysCommand words text zone first count
IsCommand words (Tzif text zone first last) = IsTzifCommand words text zone first last
IsCommand words (Dump text from to zone) = IsDumpCommand words text from to zone
IsCommand words (Check text) = IsCheck words text
IsCommand words (Clock leaps conversion count) = IsClock words leaps conversion count

-- the words match no form, that of `batch` neither
pub record IsNoCommand (words : List (List ℕ)) : Type 0 where
  pub other : (command : Command) → ¬ (IsCommand words command)
  pub no_batch : (batch : BatchCommand) → ¬ (IsBatchCommand words batch)

-- The name of a leap text's file, by the word for the text. `-` stands for a text without bytes, and no file is read.
abbrev pub leap_files : List ℕ → List (List ℕ)
leap_files leaps = if pointwise nat_eq leaps (codes "-") then [] else leaps ∷ []

-- the names of the files that a command reads, in this order
abbrev pub files_of : Command → List (List ℕ)
files_of (Info text zone instant) = text.files
files_of (Local text zone l choice) = text.files
files_of (Moves text zone from to) = text.files
files_of (Days text zone first count) = text.files
files_of (Tzif text zone first last) = text.files
files_of (Dump text from to zone) = text.files
files_of (Check text) = text.files
files_of (Clock leaps conversion count) = leap_files leaps

-- the text that a word names, which was taken apart
abbrev pub named : TextWord → NamedText
named word = record { version = option_map (λ version. version.now) word.version; files = parts_of word.names.now }

-- the command that a command line stands for, which was read from words
abbrev pub meant : CommandLine → Command
meant (lines.Info text zone instant) = Info (named text) zone.now instant
meant (lines.Local text zone l choice) = Local (named text) zone.now l choice
meant (lines.Moves text zone from to) = Moves (named text) zone.now from to
meant (lines.Days text zone first count) = Days (named text) zone.now first count
meant (lines.Tzif text zone first last) = Tzif (named text) zone.now first last
meant (lines.Dump text from to zone) = Dump (named text) from to zone.now
meant (lines.Check text) = Check (named text)
meant (lines.Clock leaps conversion count) = Clock leaps.now conversion count

-- the batch that a line stands for, which was read from words
abbrev pub batch_meant : BatchLine → BatchCommand
batch_meant line =
    record { script = line.script.now; slots = line.slots; leaps = line.leaps.now; texts = texts_in line.texts.now }
