-- The words of the operations.
use Rattle.std.specs.Prelude.{ℕ, List, [], ◌∷◌, codes, find, Option}
use Rattle.tz_specs.specs.Value.{is_exactly}
use Rattle.tz_script.specs.declared.keyword.Keyword.{Keyword}
use Rattle.tz_script.specs.declared.keyword.Keyword.TheVariants as keywords

-- the word that stands for an operation
abbrev pub keyword_word : Keyword → List ℕ
keyword_word keywords.Look = codes "look"
keyword_word keywords.Hold = codes "hold"
keyword_word keywords.Drop = codes "drop"
keyword_word keywords.Info = codes "info"
keyword_word keywords.Local = codes "local"
keyword_word keywords.Sys = codes "sys"
keyword_word keywords.Scan = codes "scan"
keyword_word keywords.Clock = codes "clock"
keyword_word keywords.Reload = codes "reload"
keyword_word keywords.Erase = codes "erase"
keyword_word keywords.List = codes "list"

-- every operation
abbrev pub all_keywords : List Keyword
all_keywords =
    keywords.Look ∷ keywords.Hold ∷ keywords.Drop ∷ keywords.Info ∷ keywords.Local ∷ keywords.Sys ∷ keywords.Scan
    ∷ keywords.Clock ∷ keywords.Reload ∷ keywords.Erase ∷ keywords.List ∷ []

-- the operation that a word names
abbrev pub keyword_of : List ℕ → Option Keyword
keyword_of word = find (λ keyword. is_exactly word (keyword_word keyword)) all_keywords
