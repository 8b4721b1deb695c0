-- The sources of texts named, read one after another.
use Rattle.std.proofs.Common.{◌≡◌, ℕ, ◌+◌, ◌<◌, ◌≤◌, nat_le, ◌&&◌, Bool, true, zero, List, [], ◌∷◌, ◌++◌, length, get_or, take, drop, Option, Some, None, is_some, String, string_bytes, refl, sym, ap, ◌∙◌, suc, append-nil, arith}
use Rattle.std.specs.List.{concat, list_all}
use Rattle.std.specs.declared.alloc.Global.{Global}
use Rattle.std.proofs.lemmas.Bool.{false≢true, and_parts, leb-true}
use Rattle.std.proofs.lemmas.List.{take-append-drop, drop_more, take_more, map-append}
use Rattle.std.proofs.lemmas.List.Elements.{filter_map-append}
use Rattle.tz_types.specs.declared.limit.TheConstants.{MOST_BYTES}
use Rattle.tz_types.specs.Source.{bytes_together}
use Rattle.tz_types.specs.declared.source.Source.{Source}
use Rattle.tz_script.specs.declared.limit.TheConstants.{LAST_SOURCE}
use Rattle.tz_version.specs.declared.sources.TheConstants.{MOST_SOURCES}
use Rattle.tz_version.specs.declared.sources.Sources.{Sources}
use Rattle.tz_words.specs.NamedText.{NamedText, IsSourceOf}
use Rattle.tz_words.specs.BatchCommand.{BatchCommand, IsTextOf, text_in, name_texts, are_texts, texts_in}
use Rattle.tz_words.specs.Command.{leap_files}
use Rattle.tz_io.specs.Files.{FilesState}
use Rattle.tz_cli.specs.Outcome.{MayReadAll}
use Rattle.tz_top.specs.BatchTexts.{text_groups, AreSourcesOf, IsReadSource, AreReadSources, AreReadTexts}
use Rattle.tz_top.proofs.Groups.{few_before, few_after, one_more_group}

-- one more source
one_more_source : (texts : List NamedText) (contents : List (List (List ℕ))) (sources : List Source) (text : NamedText) (those : List (List ℕ)) (source : Source) → AreSourcesOf texts contents sources → IsSourceOf text those source → AreSourcesOf (texts ++ text ∷ []) (contents ++ those ∷ []) (sources ++ source ∷ [])
one_more_source [] [] [] text those source are is = (is, tt)
one_more_source [] [] (s ∷ sources) text those source are is = absurd are
one_more_source [] (c ∷ contents) sources text those source are is = absurd are
one_more_source (t ∷ texts) [] sources text those source are is = absurd are
one_more_source (t ∷ texts) (c ∷ contents) [] text those source are is = absurd are
one_more_source (t ∷ texts) (c ∷ contents) (s ∷ sources) text those source are is =
    (are.0, one_more_source texts contents sources text those source are.1 is)

-- as many sources as texts
pub each_source : (texts : List NamedText) (contents : List (List (List ℕ))) (sources : List Source) → AreSourcesOf texts contents sources → length sources ≡ length texts
each_source [] [] [] are = refl
each_source [] [] (s ∷ sources) are = absurd are
each_source [] (c ∷ contents) sources are = absurd are
each_source (t ∷ texts) [] sources are = absurd are
each_source (t ∷ texts) (c ∷ contents) [] are = absurd are
each_source (t ∷ texts) (c ∷ contents) (s ∷ sources) are = ap suc (each_source texts contents sources are.1)

-- as many texts as words that name them
pub each_named : (words : List (String Global)) → name_texts words ≡ true → length (texts_in words) ≡ length words
each_named [] all = refl
each_named (word ∷ words) all =
    let both = and_parts (is_some (text_in word)) (name_texts words) all in
    first (text_in word) refl both.0 (each_named words both.1)
  where
    first : (text : Option NamedText) → text_in word ≡ text → is_some text ≡ true → length (texts_in words) ≡ length words → length (texts_in (word ∷ words)) ≡ suc (length words)
    first None is some later = absurd (false≢true some)
    first (Some text) is some later = rw is (ap suc later)

-- what all pass passes each
passes_at : {A : Type 0} (test : A → Bool) (xs : List A) (i : ℕ) (x : A) → list_all test xs ≡ true → i < length xs → test (get_or xs i x) ≡ true
passes_at test [] i x all within = absurd (omega (arith, within))
passes_at test (y ∷ xs) zero x all within = (and_parts (test y) (list_all test xs) all).0
passes_at test (y ∷ xs) (suc i) x all within =
    passes_at test xs i x (and_parts (test y) (list_all test xs) all).1 (omega (arith, within))

-- the text that a word names, of those that name texts
pub text_at : (words : List (String Global)) (i : ℕ) (word : String Global) → name_texts words ≡ true → i < length words → word ≡ get_or words i word → (text : NamedText) × IsTextOf (string_bytes word) text
text_at words i word all within at = by_text (text_in word) refl
  where
    there : is_some (text_in word) ≡ true
    there =
        ap (λ (it : String Global). is_some (text_in it)) at ∙ passes_at (λ word. is_some (text_in word)) words i word all within

    by_text : (text : Option NamedText) → text_in word ≡ text → (text : NamedText) × IsTextOf (string_bytes word) text
    by_text None is = absurd (false≢true (sym (ap is_some is) ∙ there))
    by_text (Some text) is = (text, is)

-- the texts in words with one more
texts_with : (words : List (String Global)) (word : String Global) (text : NamedText) → text_in word ≡ Some text → texts_in (words ++ word ∷ []) ≡ texts_in words ++ text ∷ []
texts_with words word text is = filter_map-append text_in words (word ∷ []) ∙ rw is refl

-- one more is read
pub next_source : (files : FilesState) (words : List (String Global)) (i : ℕ) (word : String Global) (text : NamedText) (sources : List Source) (source : Source) → i < length words → word ≡ get_or words i word → IsTextOf (string_bytes word) text → AreReadSources files (texts_in (take i words)) sources → IsReadSource files text source → AreReadSources files (texts_in (take (i + 1) words)) (sources ++ source ∷ [])
next_source files words i word text sources source within at is have one =
    let before = texts_in (take i words) in
    let front : take (i + 1) words ≡ take i words ++ word ∷ [] = take_more words i word within ∙ ap (λ (it : String Global). take i words ++ it ∷ []) (sym at) in
    let texts : texts_in (take (i + 1) words) ≡ before ++ text ∷ [] = ap texts_in front ∙ texts_with (take i words) word text is in
    let groups : text_groups (before ++ text ∷ []) ≡ text_groups before ++ text.files ∷ [] = map-append (λ (text : NamedText). text.files) before (text ∷ []) in
    rw texts (record {
      contents = have.contents ++ one.contents ∷ [];
      read = rw groups (one_more_group files (text_groups before) have.contents text.files one.contents have.read one.read);
      few_bytes = few_after have.contents one.contents have.few_bytes one.few_bytes;
      are = one_more_source before have.contents sources text one.contents source have.are one.is;
    })

-- the groups of words are those before a word, its own, and others
pub groups_at : (words : List (String Global)) (i : ℕ) (word : String Global) (text : NamedText) → i < length words → word ≡ get_or words i word → IsTextOf (string_bytes word) text → text_groups (texts_in words) ≡ text_groups (texts_in (take i words)) ++ text.files ∷ text_groups (texts_in (drop (i + 1) words))
groups_at words i word text within at is =
    let rest : drop i words ≡ word ∷ drop (i + 1) words = drop_more words i word within ∙ ap (λ (it : String Global). it ∷ drop (i + 1) words) (sym at) in
    let all : words ≡ take i words ++ word ∷ drop (i + 1) words = sym (take-append-drop i words) ∙ ap (λ (them : List (String Global)). take i words ++ them) rest in
    let later : texts_in (word ∷ drop (i + 1) words) ≡ text ∷ texts_in (drop (i + 1) words) = rw is refl in
    let texts : texts_in words ≡ texts_in (take i words) ++ text ∷ texts_in (drop (i + 1) words) = ap texts_in all ∙ filter_map-append text_in (take i words) (word ∷ drop (i + 1) words) ∙ ap (λ (them : List NamedText). texts_in (take i words) ++ them) later in
    ap text_groups texts ∙ map-append (λ (text : NamedText). text.files) (texts_in (take i words)) (text ∷ texts_in (drop (i + 1) words))

-- the sources of one to 64 words
pub some_sources : (files : FilesState) (words : List (String Global)) (sources : List Source) → are_texts words ≡ true → AreReadSources files (texts_in words) sources → (1 ≤ length sources) × (length sources ≤ MOST_SOURCES)
some_sources files words sources are have =
    let both = and_parts (nat_le 1 (length words) && nat_le (length words) (LAST_SOURCE + 1)) (name_texts words) are in
    let range = and_parts (nat_le 1 (length words)) (nat_le (length words) (LAST_SOURCE + 1)) both.0 in
    let low = leb-true 1 (length words) range.0 in
    let high = leb-true (length words) (LAST_SOURCE + 1) range.1 in
    let long : length sources ≡ length words = each_source (texts_in words) have.contents sources have.are ∙ each_named words both.1 in
    (omega (arith, low, long), omega (arith, high, long))

-- the contents of one file are one
lone : (files : FilesState) (name : List ℕ) (contents : List (List ℕ)) → MayReadAll files (name ∷ []) contents → contents ≡ concat contents ∷ []
lone files name [] read = absurd read
lone files name (c ∷ []) read = ap (λ (it : List ℕ). it ∷ []) (sym (append-nil c))
lone files name (c ∷ d ∷ contents) read = absurd read.1

-- what was read of the script's file, of the leap text's and of the texts are the texts of the batch
pub texts_read : (files : FilesState) (batch : BatchCommand) (script_file leap_file : List (List ℕ)) (script : List ℕ) (sources : Sources) → MayReadAll files (batch.script ∷ []) script_file → bytes_together script_file ≤ MOST_BYTES → script ≡ concat script_file → MayReadAll files (leap_files batch.leaps) leap_file → bytes_together leap_file ≤ MOST_BYTES → sources.leaps ≡ concat leap_file → AreReadSources files batch.texts sources.texts → AreReadTexts files batch script sources
texts_read files batch script_file leap_file script sources first few script_is second few_leaps leaps_are have =
    let one : script_file ≡ script ∷ [] = lone files batch.script script_file first ∙ ap (λ (it : List ℕ). it ∷ []) (sym script_is) in
    record {
      contents = script_file ∷ leap_file ∷ have.contents;
      read = (first, (second, have.read));
      few_bytes = few_before script_file (leap_file ∷ have.contents) few (few_before leap_file have.contents few_leaps have.few_bytes);
      are = record {
        leaps = leap_file;
        texts = have.contents;
        contents_are = ap (λ (it : List (List ℕ)). it ∷ leap_file ∷ have.contents) one;
        leaps_are = leaps_are;
        sources_are = have.are;
      };
    }
