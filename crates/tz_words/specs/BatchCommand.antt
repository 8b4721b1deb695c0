-- The command `batch`, which runs a script over a list of versions: what its words name, and which words these are.
use Rattle.std.specs.Prelude.{◌≡◌, ℕ, ◌+◌, ◌≤◌, nat_le, Bool, ◌&&◌, List, ◌∷◌, length, codes, Option, Some, is_some, String, string_bytes}
use Rattle.std.specs.List.{AllZip, list_all, filter_map}
use Rattle.std.specs.declared.alloc.Global.{Global}
use Rattle.std.specs.Option.{option_and_then}
use Rattle.tz_types.specs.Civil.{is_from_to}
use Rattle.tz_specs.specs.Choice.{only_if}
use Rattle.tz_specs.specs.Number.{number_of}
use Rattle.tz_script.specs.declared.limit.TheConstants.{LAST_SOURCE}
use Rattle.pin_book.specs.declared.limits.TheConstants.{FEWEST_SLOTS, MOST_SLOTS}
use Rattle.tz_words.specs.NamedText.{NamedText, named_text_of}

-- the file of a script, how many slots the list has, the word for a leap text, and the texts named, in their order
pub record BatchCommand : Type 0 where
  pub script : List ℕ
  pub slots : ℕ
  pub leaps : List ℕ
  pub texts : List NamedText

-- how many slots a word asks for: 1 to 15 digits, whose value is one that a list may have
abbrev pub slot_count_of : List ℕ → Option ℕ
slot_count_of word = option_and_then (λ count. only_if (is_from_to FEWEST_SLOTS MOST_SLOTS count) count) (number_of 1 15 word)

-- the text is the one that the word names
abbrev pub IsTextOf : List ℕ → NamedText → Type 0
IsTextOf word text = named_text_of word ≡ Some text

-- The words are `batch SCRIPT SLOTS LEAPS TEXT..`, with one to 64 texts.
pub record IsBatchCommand (words : List (List ℕ)) (batch : BatchCommand) : Type 0 where
  pub number : List ℕ
  pub named : List (List ℕ)
  pub words_are : words ≡ codes "batch" ∷ batch.script ∷ number ∷ batch.leaps ∷ named
  pub slots_are : slot_count_of number ≡ Some batch.slots
  pub some_text : 1 ≤ length named
  pub few_texts : length named ≤ LAST_SOURCE + 1
  pub texts_are : AllZip IsTextOf named batch.texts

-- the text that a word names, where it names one
abbrev pub text_in : String Global → Option NamedText
text_in word = named_text_of (string_bytes word)

-- each word names a text
abbrev pub name_texts : List (String Global) → Bool
name_texts words = list_all (λ word. is_some (text_in word)) words

-- there are one to 64 words, each of which names a text
abbrev pub are_texts : List (String Global) → Bool
are_texts words = nat_le 1 (length words) && nat_le (length words) (LAST_SOURCE + 1) && name_texts words

-- the texts that words name
abbrev pub texts_in : List (String Global) → List NamedText
texts_in words = filter_map text_in words
