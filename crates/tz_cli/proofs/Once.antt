-- Words are those of one command at most, and a command has one status over contents: the reasons exclude each other.
use Rattle.std.proofs.Common.{◌≡◌, ℕ, nat_eq, true, false, ◌<◌, ◌≤◌, ◌⊎◌, inl, inr, List, [], ◌∷◌, length, codes, Option, Some, find, refl, sym, ap, ◌∙◌, subst, arith, ℤ}
use mathlib.Core.HLevel.{is_prop→PathP}
use Rattle.std.proofs.Props.{props}
use Rattle.std.specs.Cmp.Lexicographic.{pointwise}
use Rattle.std.specs.List.{concat}
use Rattle.tz_types.specs.declared.limit.TheConstants.{MOST_BYTES, MOST_FILES}
use Rattle.tz_types.specs.Source.{bytes_together}
use Rattle.tz_types.specs.declared.source.Source.{Source}
use Rattle.tz_types.specs.declared.database.Db.{Db}
use Rattle.tz_specs.specs.Reads.{Reads}
use Rattle.tz_specs.specs.Number.{signed_number_of}
use Rattle.tz_lookup.specs.Choice.{choice_word}
use Rattle.tz_lookup.specs.Conversion.{conversion_word}
use Rattle.tz_words.specs.Command.{Command, Info, Local, Moves, Days, Tzif, Dump, Check, Clock, IsCommand, day_count_of, short_year_of}
use Rattle.tz_text.specs.LocalTime.{local_time_of}
use Rattle.tz_cli.specs.Moves.{AreMovesOf, MovesAnswers}
use Rattle.tz_expand.specs.Stretch.{IsStretch}
use Rattle.tz_expand.specs.declared.compiled_zone.CompiledZone.{CompiledZone}
use Rattle.tz_cli.specs.Days.{AreDays, AreDaysOf, DaysAnswers}
use Rattle.tz_cli.specs.Tzif.{AreYears, IsFileOf, TzifAnswers}
use Rattle.tz_cli.specs.SourceAnswer.{IsThere}
use Rattle.tz_cli.specs.Dump.{IsDumped, IsDumpAt, DumpAnswers, asked_for}
use Rattle.tz_cli.specs.Check.{CheckAnswers}
use Rattle.tz_specs.specs.Expansion.{IsInstant}
use Rattle.tz_local.specs.LocalTime.{IsLocalTime}
use Rattle.tz_cli.specs.Lookup.{InfoAnswers, LocalAnswers, IsFoundByChoice}
use Rattle.tz_lookup.specs.Finding.{IsInfoFound}
use Rattle.tz_lookup.proofs.FoundOnce as lookups
use Rattle.tz_cli.proofs.Lookups.{lookup_once, by_choice_once, clock_once}
use Rattle.tz_cli.proofs.SourceAnswer.{answers_once}
use Rattle.tz_words.specs.NamedText.{NamedText, named_text_of, IsSourceOf}
use Rattle.tz_cli.specs.Answer.{TextAnswers, IsAnswer, OfSource}
use Rattle.tz_lookup.specs.declared.choice.Choice.{Choice}
use Rattle.tz_lookup.specs.declared.choice.Choice.TheVariants as choices
use Rattle.tz_lookup.specs.declared.conversion.Conversion.{Conversion}
use Rattle.tz_lookup.specs.declared.conversion.Conversion.TheVariants as conversions
use Rattle.tz_words.specs.declared.status.Status.{Status}
use Rattle.tz_words.specs.declared.status.Status.TheVariants as statuses
use Rattle.tz_specs.proofs.TextLemmas.{read_isnt_refused}
use Rattle.tz_cli.proofs.Asked.{asked_there}
use Rattle.tz_cli.proofs.ZoneAnswer.{zone_once}
use Rattle.tz_cli.proofs.ZoneFiles.{one_file}

abbrev all_conversions : List Conversion
all_conversions =
    conversions.SysToUtc ∷ conversions.UtcToSys ∷ conversions.UtcInfo ∷ conversions.UtcToTai ∷ conversions.TaiToUtc ∷ conversions.UtcToGps ∷ conversions.GpsToUtc ∷ []

-- the conversion that a word stands for
abbrev with_word : List ℕ → Option Conversion
with_word word = find (λ (conversion : Conversion). pointwise nat_eq (conversion_word conversion) word) all_conversions

own_word : (conversion : Conversion) → with_word (conversion_word conversion) ≡ Some conversion
own_word conversions.SysToUtc = refl
own_word conversions.UtcToSys = refl
own_word conversions.UtcInfo = refl
own_word conversions.UtcToTai = refl
own_word conversions.TaiToUtc = refl
own_word conversions.UtcToGps = refl
own_word conversions.GpsToUtc = refl

one_conversion : (a b : Conversion) → conversion_word a ≡ conversion_word b → a ≡ b
one_conversion a b same =
    let found : Some a ≡ Some b = sym (own_word a) ∙ ap with_word same ∙ own_word b in cc

one_text : (a b : List ℕ) (m n : NamedText) → a ≡ b → named_text_of a ≡ Some m → named_text_of b ≡ Some n → m ≡ n
one_text a b m n same first second =
    let text : Some m ≡ Some n = sym first ∙ ap named_text_of same ∙ second in cc

one_number : (a b : List ℕ) (m n : ℤ) → a ≡ b → signed_number_of 1 15 a ≡ Some m → signed_number_of 1 15 b ≡ Some n → m ≡ n
one_number a b m n same first second =
    let number : Some m ≡ Some n = sym first ∙ ap (signed_number_of 1 15) same ∙ second in cc

one_time : (a b : List ℕ) (m n : ℤ) → a ≡ b → local_time_of a ≡ Some m → local_time_of b ≡ Some n → m ≡ n
one_time a b m n same first second =
    let time : Some m ≡ Some n = sym first ∙ ap local_time_of same ∙ second in cc

abbrev all_choices : List Choice
all_choices = choices.None ∷ choices.Strict ∷ choices.Earliest ∷ choices.Latest ∷ []

-- the choice that a word stands for
abbrev choice_of : List ℕ → Option Choice
choice_of word = find (λ (choice : Choice). pointwise nat_eq (choice_word choice) word) all_choices

own_choice : (choice : Choice) → choice_of (choice_word choice) ≡ Some choice
own_choice choices.None = refl
own_choice choices.Strict = refl
own_choice choices.Earliest = refl
own_choice choices.Latest = refl

one_choice : (a b : Choice) → choice_word a ≡ choice_word b → a ≡ b
one_choice a b same =
    let found : Some a ≡ Some b = sym (own_choice a) ∙ ap choice_of same ∙ own_choice b in cc

-- the word with which those of a command begin
abbrev keyword : Command → List ℕ
keyword (Info text zone t) = codes "info"
keyword (Local text zone l choice) = codes "local"
keyword (Moves text zone from to) = codes "moves"
keyword (Days text zone first count) = codes "days"
keyword (Tzif text zone first last) = codes "tzif"
keyword (Dump text from to zone) = codes "dump"
keyword (Check text) = codes "check"
keyword (Clock leaps conversion count) = codes "clock"

begins : (words : List (List ℕ)) (command : Command) → IsCommand words command → (later : List (List ℕ)) × (words ≡ keyword command ∷ later)
begins words (Info text zone t) is = (is.word ∷ zone ∷ is.number ∷ [], is.words_are)
begins words (Local text zone l choice) is = (is.word ∷ zone ∷ is.time ∷ choice_word choice ∷ [], is.words_are)
begins words (Moves text zone from to) is = (is.word ∷ zone ∷ is.first ∷ is.last ∷ [], is.words_are)
begins words (Days text zone first count) is = (is.word ∷ zone ∷ is.number ∷ is.many ∷ [], is.words_are)
begins words (Tzif text zone first last) is = (is.word ∷ zone ∷ is.begins ∷ is.ends ∷ [], is.words_are)
begins words (Dump text from to zone) is = (is.word ∷ is.first ∷ is.last ∷ zone ∷ [], is.words_are)
begins words (Check text) is = (is.word ∷ [], is.words_are)
begins words (Clock leaps conversion count) is = (leaps ∷ conversion_word conversion ∷ is.number ∷ [], is.words_are)

-- words of two commands begin with one keyword
one_keyword : (words : List (List ℕ)) (a b : Command) → IsCommand words a → IsCommand words b → keyword a ≡ keyword b
one_keyword words a b first second =
    let here = begins words a first in
    let there = begins words b second in
    let are : keyword a ∷ here.0 ≡ keyword b ∷ there.0 = sym here.1 ∙ there.1 in cc

differ : (word other : List ℕ) → word ≡ other → pointwise nat_eq word other ≡ false → pointwise nat_eq other other ≡ true → ⊥
differ word other same apart alike =
    let never : true ≡ false = sym alike ∙ ap (λ (it : List ℕ). pointwise nat_eq it other) (sym same) ∙ apart in cc

-- the words are those of at most one command
pub one_command : (words : List (List ℕ)) (a b : Command) → IsCommand words a → IsCommand words b → a ≡ b
one_command words (Info text zone t) (Info text' zone' t') first second =
    let are : codes "info" ∷ first.word ∷ zone ∷ first.number ∷ [] ≡ codes "info" ∷ second.word ∷ zone' ∷ second.number ∷ [] = sym first.words_are ∙ second.words_are in
    let number : first.number ≡ second.number = cc in
    let instant : t ≡ t' = one_number first.number second.number t t' number first.number_is second.number_is in
    let word : first.word ≡ second.word = cc in
    let texts : text ≡ text' = one_text first.word second.word text text' word first.text_is second.text_is in
    let zones : zone ≡ zone' = cc in cc
one_command words (Info text zone t) other first second =
    absurd (differ (keyword (Info text zone t)) (keyword other) (one_keyword words (Info text zone t) other first second) refl refl)
one_command words (Local text zone l choice) (Local text' zone' l' choice') first second =
    let are : codes "local" ∷ first.word ∷ zone ∷ first.time ∷ choice_word choice ∷ [] ≡ codes "local" ∷ second.word ∷ zone' ∷ second.time ∷ choice_word choice' ∷ [] = sym first.words_are ∙ second.words_are in
    let time : first.time ≡ second.time = cc in
    let times : l ≡ l' = one_time first.time second.time l l' time first.time_is second.time_is in
    let spelt : choice_word choice ≡ choice_word choice' = cc in
    let same : choice ≡ choice' = one_choice choice choice' spelt in
    let word : first.word ≡ second.word = cc in
    let texts : text ≡ text' = one_text first.word second.word text text' word first.text_is second.text_is in
    let zones : zone ≡ zone' = cc in cc
one_command words (Local text zone l choice) other first second =
    absurd (differ (keyword (Local text zone l choice)) (keyword other) (one_keyword words (Local text zone l choice) other first second) refl refl)
one_command words (Moves text zone from to) (Moves text' zone' from' to') first second =
    let are : codes "moves" ∷ first.word ∷ zone ∷ first.first ∷ first.last ∷ [] ≡ codes "moves" ∷ second.word ∷ zone' ∷ second.first ∷ second.last ∷ [] = sym first.words_are ∙ second.words_are in
    let begins : first.first ≡ second.first = cc in
    let ends : first.last ≡ second.last = cc in
    let froms : from ≡ from' = one_number first.first second.first from from' begins first.first_is second.first_is in
    let tos : to ≡ to' = one_number first.last second.last to to' ends first.last_is second.last_is in
    let word : first.word ≡ second.word = cc in
    let texts : text ≡ text' = one_text first.word second.word text text' word first.text_is second.text_is in
    let zones : zone ≡ zone' = cc in cc
one_command words (Moves text zone from to) other first second =
    absurd (differ (keyword (Moves text zone from to)) (keyword other) (one_keyword words (Moves text zone from to) other first second) refl refl)
one_command words (Days text zone day count) (Days text' zone' day' count') first second =
    let are : codes "days" ∷ first.word ∷ zone ∷ first.number ∷ first.many ∷ [] ≡ codes "days" ∷ second.word ∷ zone' ∷ second.number ∷ second.many ∷ [] = sym first.words_are ∙ second.words_are in
    let number : first.number ≡ second.number = cc in
    let many : first.many ≡ second.many = cc in
    let days : day ≡ day' = one_number first.number second.number day day' number first.number_is second.number_is in
    let counts : Some count ≡ Some count' = sym first.count_is ∙ ap day_count_of many ∙ second.count_is in
    let word : first.word ≡ second.word = cc in
    let texts : text ≡ text' = one_text first.word second.word text text' word first.text_is second.text_is in
    let zones : zone ≡ zone' = cc in cc
one_command words (Days text zone day count) other first second =
    absurd (differ (keyword (Days text zone day count)) (keyword other) (one_keyword words (Days text zone day count) other first second) refl refl)
one_command words (Tzif text zone first last) (Tzif text' zone' first' last') here there =
    let are : codes "tzif" ∷ here.word ∷ zone ∷ here.begins ∷ here.ends ∷ [] ≡ codes "tzif" ∷ there.word ∷ zone' ∷ there.begins ∷ there.ends ∷ [] = sym here.words_are ∙ there.words_are in
    let begins : here.begins ≡ there.begins = cc in
    let ends : here.ends ≡ there.ends = cc in
    let firsts : Some first ≡ Some first' = sym here.first_is ∙ ap short_year_of begins ∙ there.first_is in
    let lasts : Some last ≡ Some last' = sym here.last_is ∙ ap short_year_of ends ∙ there.last_is in
    let word : here.word ≡ there.word = cc in
    let texts : text ≡ text' = one_text here.word there.word text text' word here.text_is there.text_is in
    let zones : zone ≡ zone' = cc in cc
one_command words (Tzif text zone begins ends) other first second =
    absurd (differ (keyword (Tzif text zone begins ends)) (keyword other) (one_keyword words (Tzif text zone begins ends) other first second) refl refl)
one_command words (Dump text from to zone) (Dump text' from' to' zone') first second =
    let are : codes "dump" ∷ first.word ∷ first.first ∷ first.last ∷ zone ∷ [] ≡ codes "dump" ∷ second.word ∷ second.first ∷ second.last ∷ zone' ∷ [] = sym first.words_are ∙ second.words_are in
    let begins : first.first ≡ second.first = cc in
    let ends : first.last ≡ second.last = cc in
    let froms : from ≡ from' = one_number first.first second.first from from' begins first.first_is second.first_is in
    let tos : to ≡ to' = one_number first.last second.last to to' ends first.last_is second.last_is in
    let word : first.word ≡ second.word = cc in
    let texts : text ≡ text' = one_text first.word second.word text text' word first.text_is second.text_is in
    let zones : zone ≡ zone' = cc in cc
one_command words (Dump text from to zone) other first second =
    absurd (differ (keyword (Dump text from to zone)) (keyword other) (one_keyword words (Dump text from to zone) other first second) refl refl)
one_command words (Check text) (Check text') first second =
    let are : codes "check" ∷ first.word ∷ [] ≡ codes "check" ∷ second.word ∷ [] = sym first.words_are ∙ second.words_are in
    let word : first.word ≡ second.word = cc in
    let texts : text ≡ text' = one_text first.word second.word text text' word first.text_is second.text_is in cc
one_command words (Check text) other first second =
    absurd (differ (keyword (Check text)) (keyword other) (one_keyword words (Check text) other first second) refl refl)
one_command words (Clock leaps conversion count) (Clock leaps' conversion' count') first second =
    let are : codes "clock" ∷ leaps ∷ conversion_word conversion ∷ first.number ∷ [] ≡ codes "clock" ∷ leaps' ∷ conversion_word conversion' ∷ second.number ∷ [] = sym first.words_are ∙ second.words_are in
    let number : first.number ≡ second.number = cc in
    let counts : count ≡ count' = one_number first.number second.number count count' number first.number_is second.number_is in
    let files : leaps ≡ leaps' = cc in
    let spelt : conversion_word conversion ≡ conversion_word conversion' = cc in
    let same : conversion ≡ conversion' = one_conversion conversion conversion' spelt in cc
one_command words (Clock leaps conversion count) other first second =
    absurd (differ (keyword (Clock leaps conversion count)) (keyword other) (one_keyword words (Clock leaps conversion count) other first second) refl refl)

info_once : (source : Source) (name : List ℕ) (t : ℤ) (r s : Status) (line other : List ℕ) → InfoAnswers source name t r line → InfoAnswers source name t s other → r ≡ s
info_once source name t r s line other a b =
    lookup_once source name (IsInstant t) (λ ranges. IsInfoFound ranges t) r s line other (lookups.info_once t) a b

local_once : (source : Source) (name : List ℕ) (l : ℤ) (choice : Choice) (r s : Status) (line other : List ℕ) → LocalAnswers source name l choice r line → LocalAnswers source name l choice s other → r ≡ s
local_once source name l choice r s line other a b =
    lookup_once source name (IsLocalTime l) (IsFoundByChoice choice l) r s line other (by_choice_once choice l) a b

-- moves are answered with one status
moves_told : (from to : ℤ) (a b : CompiledZone) (r s : Status) (line other : List ℕ) → AreMovesOf from to a r line → AreMovesOf from to b s other → r ≡ s
moves_told from to a b statuses.Ok statuses.Ok line other first second = refl
moves_told from to a b statuses.Ok s line other first second = absurd second
moves_told from to a b r s line other first second = absurd first

moves_once : (source : Source) (name : List ℕ) (from to : ℤ) (r s : Status) (line other : List ℕ) → MovesAnswers source name from to r line → MovesAnswers source name from to s other → r ≡ s
moves_once source name from to r s line other a b =
    zone_once source name (IsStretch from to) (AreMovesOf from to) r s line other (λ one two here there. moves_told from to one two r s line other) a b

days_told : (first : ℤ) (count : ℕ) (a b : CompiledZone) (r s : Status) (line other : List ℕ) → AreDaysOf first count a r line → AreDaysOf first count b s other → r ≡ s
days_told first count a b statuses.Ok statuses.Ok line other here there = refl
days_told first count a b statuses.Ok s line other here there = absurd there
days_told first count a b r s line other here there = absurd here

days_once : (source : Source) (name : List ℕ) (first : ℤ) (count : ℕ) (r s : Status) (line other : List ℕ) → DaysAnswers source name first count r line → DaysAnswers source name first count s other → r ≡ s
days_once source name first count r s line other a b =
    zone_once source name (AreDays first count) (AreDaysOf first count) r s line other (λ one two here there. days_told first count one two r s line other) a b

tzif_once : (source : Source) (name : List ℕ) (first last : ℤ) (r s : Status) (line other : List ℕ) → TzifAnswers source name first last r line → TzifAnswers source name first last s other → r ≡ s
tzif_once source name first last r s line other a b =
    zone_once source name (AreYears first last) (IsFileOf first last) r s line other (λ one two here there. one_file source name first last one two r s line other here there) a b

dump_told : (source : Source) (from to : ℤ) (asked : Option (List ℕ)) (r s : Status) (line other : List ℕ) → IsDumpAt source from to asked r line → IsDumpAt source from to asked s other → r ≡ s
dump_told source from to asked statuses.Ok statuses.Ok line other a b = refl
dump_told source from to asked statuses.Ok s line other a b = absurd b
dump_told source from to asked r s line other a b = absurd a

dump_has : (source : Source) (from to : ℤ) (asked : Option (List ℕ)) (status : Status) (line : List ℕ) → IsDumpAt source from to asked status line → (db : Db) × Reads source db × IsThere db asked
dump_has source from to asked statuses.Ok line is = (is.db, is.reads, asked_there is.db asked is.zones is.are)
dump_has source from to asked status line is = absurd is

dump_once : (source : Source) (from to : ℤ) (asked : Option (List ℕ)) (r s : Status) (line other : List ℕ) → DumpAnswers source from to asked r line → DumpAnswers source from to asked s other → r ≡ s
dump_once source from to asked r s line other a b =
    answers_once source asked (IsDumped asked from to) (IsDumpAt source from to asked) r s line other (dump_has source from to asked) (dump_told source from to asked r s line other) a b

check_once : (source : Source) (r s : Status) (line other : List ℕ) → CheckAnswers source r line → CheckAnswers source s other → r ≡ s
check_once source statuses.Ok statuses.Ok line other a b = refl
check_once source statuses.Ok statuses.Text line other a b = absurd (read_isnt_refused source a.0 b.0 a.1 b.1)
check_once source statuses.Ok s line other a b = absurd b
check_once source statuses.Text statuses.Ok line other a b = absurd (read_isnt_refused source b.0 a.0 b.1 a.1)
check_once source statuses.Text statuses.Text line other a b = refl
check_once source statuses.Text s line other a b = absurd b
check_once source r s line other a b = absurd a

-- contents are those of one source, with a version that may be given
pub same_source : (text : NamedText) (contents : List (List ℕ)) (a b : Source) → IsSourceOf text contents a → IsSourceOf text contents b → a ≡ b
same_source text contents a b first second = by_parts (first.version_is ∙ sym second.version_is) (first.files_are ∙ sym second.files_are)
  where
    by_parts : a.version ≡ b.version → a.files ≡ b.files → a ≡ b
    by_parts version files = λ i. record {
      version = version i;
      files = files i;
      some_file = is_prop→PathP (λ j. 1 ≤ length (files j)) (λ j. hlevel props) a.some_file b.some_file i;
      few_files = is_prop→PathP (λ j. length (files j) ≤ MOST_FILES) (λ j. hlevel props) a.few_files b.few_files i;
      few_bytes = is_prop→PathP (λ j. bytes_together (files j) ≤ MOST_BYTES) (λ j. hlevel props) a.few_bytes b.few_bytes i;
    }

-- what has one status over each source has one over contents
source_once : (text : NamedText) (contents : List (List ℕ)) (answers : Source → Status → List ℕ → Type 0) (r s : Status) (line other : List ℕ) → ((source : Source) → answers source r line → answers source s other → r ≡ s) → OfSource text contents (λ source. answers source r line) → OfSource text contents (λ source. answers source s other) → r ≡ s
source_once text contents answers r s line other same a b =
    same a.0 a.2 (subst (λ (source : Source). answers source s other) (same_source text contents b.0 a.0 b.1 a.1) b.2)

text_once : (command : Command) (contents : List (List ℕ)) (r s : Status) (line other : List ℕ) → TextAnswers command contents r line → TextAnswers command contents s other → r ≡ s
text_once (Info text zone t) contents r s line other a b =
    source_once text contents (λ source. InfoAnswers source zone t) r s line other (λ source. info_once source zone t r s line other) a b
text_once (Local text zone l choice) contents r s line other a b =
    source_once text contents (λ source. LocalAnswers source zone l choice) r s line other (λ source. local_once source zone l choice r s line other) a b
text_once (Moves text zone from to) contents r s line other a b =
    source_once text contents (λ source. MovesAnswers source zone from to) r s line other (λ source. moves_once source zone from to r s line other) a b
text_once (Days text zone first count) contents r s line other a b =
    source_once text contents (λ source. DaysAnswers source zone first count) r s line other (λ source. days_once source zone first count r s line other) a b
text_once (Tzif text zone first last) contents r s line other a b =
    source_once text contents (λ source. TzifAnswers source zone first last) r s line other (λ source. tzif_once source zone first last r s line other) a b
text_once (Dump text from to zone) contents r s line other a b =
    source_once text contents (λ source. DumpAnswers source from to (asked_for zone)) r s line other (λ source. dump_once source from to (asked_for zone) r s line other) a b
text_once (Check text) contents r s line other a b =
    source_once text contents (λ source. CheckAnswers source) r s line other (λ source. check_once source r s line other) a b
text_once (Clock leaps conversion number) contents r s line other a b =
    clock_once (concat contents) conversion number r s line other a b

-- the contents are too large, or the answer is one over a text
pub sized : (command : Command) (contents : List (List ℕ)) (r : Status) (line : List ℕ) → IsAnswer command contents r line → ((r ≡ statuses.TooLarge) × (MOST_BYTES < bytes_together contents)) ⊎ ((bytes_together contents ≤ MOST_BYTES) × TextAnswers command contents r line)
sized command contents statuses.TooLarge line a = inl (refl, a.0)
sized command contents r line a = inr a

-- over one list of contents a command has one status
pub once : (command : Command) (contents : List (List ℕ)) (r s : Status) (line other : List ℕ) → IsAnswer command contents r line → IsAnswer command contents s other → r ≡ s
once command contents r s line other a b =
    elim (sized command contents r line a) [
      | inl large ↦
          elim (sized command contents s other b) [
            | inl too ↦ large.0 ∙ sym too.0
            | inr short ↦ absurd (omega (arith, large.1, short.0))
          ]
      | inr short ↦
          elim (sized command contents s other b) [
            | inl large ↦ absurd (omega (arith, large.1, short.0))
            | inr also ↦ text_once command contents r s line other short.1 also.1
          ]
    ]
