-- The words of `batch`: what they name, and that they stand for one batch.
use Rattle.std.proofs.Common.{◌≡◌, ◌≢◌, ℕ, ◌+◌, ◌≤◌, ◌-◌, nat_le, true, false, not, ◌&&◌, bytes_eq, List, [], ◌∷◌, length, get_or, take, drop, codes, Option, Some, None, is_some, String, string_bytes, refl, sym, ap, ◌∙◌, subst, arith}
use Rattle.std.specs.List.{AllZip}
use Rattle.std.specs.declared.alloc.Global.{Global}
use Rattle.std.proofs.lemmas.Bool.{false≢true, both_ways, not-true, and_parts, le-leb, leb-true}
use Rattle.std.proofs.lemmas.List.{length-map, take_rest}
use Rattle.std.proofs.lemmas.Slice.Eq.{bytes_eq-Decides}
use Rattle.tz_script.specs.declared.limit.TheConstants.{LAST_SOURCE}
use Rattle.tz_words.specs.NamedText.{NamedText}
use Rattle.tz_words.specs.BatchCommand.{BatchCommand, slot_count_of, IsTextOf, IsBatchCommand, text_in, name_texts, are_texts, texts_in}
use Rattle.tz_words.specs.Command.{words_of}

-- words each of which names a text name the texts in them
pub each_text : (words : List (String Global)) → name_texts words ≡ true → AllZip IsTextOf (words_of words) (texts_in words)
each_text [] all = tt
each_text (word ∷ words) all =
    let both = and_parts (is_some (text_in word)) (name_texts words) all in
    let later = each_text words both.1 in
    first (text_in word) refl both.0 later
  where
    first : (text : Option NamedText) → text_in word ≡ text → is_some text ≡ true → AllZip IsTextOf (words_of words) (texts_in words) → AllZip IsTextOf (words_of (word ∷ words)) (texts_in (word ∷ words))
    first None is some later = absurd (false≢true some)
    first (Some text) is some later = rw is (is, later)

-- where texts are those that words name, each word names one
pub texts_named : (words : List (String Global)) (texts : List NamedText) → AllZip IsTextOf (words_of words) texts → name_texts words ≡ true
texts_named [] texts are = refl
texts_named (word ∷ words) [] are = absurd are
texts_named (word ∷ words) (text ∷ texts) are = rw (are.0, texts_named words texts are.1) refl

-- words name one list of texts
same_texts : (named : List (List ℕ)) (a b : List NamedText) → AllZip IsTextOf named a → AllZip IsTextOf named b → a ≡ b
same_texts [] [] [] first second = refl
same_texts [] (x ∷ a) b first second = absurd first
same_texts [] [] (y ∷ b) first second = absurd second
same_texts (n ∷ named) [] b first second = absurd first
same_texts (n ∷ named) (x ∷ a) [] first second = absurd second
same_texts (n ∷ named) (x ∷ a) (y ∷ b) first second =
    let one : Some x ≡ Some y = sym first.0 ∙ second.0 in
    let others : a ≡ b = same_texts named a b first.1 second.1 in cc

-- the words are those of at most one batch
pub one_batch : (words : List (List ℕ)) (a b : BatchCommand) → IsBatchCommand words a → IsBatchCommand words b → a ≡ b
one_batch words a b first second =
    let are : codes "batch" ∷ a.script ∷ first.number ∷ a.leaps ∷ first.named ≡ codes "batch" ∷ b.script ∷ second.number ∷ b.leaps ∷ second.named = sym first.words_are ∙ second.words_are in
    let number : first.number ≡ second.number = cc in
    let named : first.named ≡ second.named = cc in
    let scripts : a.script ≡ b.script = cc in
    let leaps : a.leaps ≡ b.leaps = cc in
    let counts : Some a.slots ≡ Some b.slots = sym first.slots_are ∙ ap slot_count_of number ∙ second.slots_are in
    let slots : a.slots ≡ b.slots = cc in
    let texts : a.texts ≡ b.texts = same_texts second.named a.texts b.texts (subst (λ (them : List (List ℕ)). AllZip IsTextOf them a.texts) named first.texts_are) second.texts_are in
    λ i. record { script = scripts i; slots = slots i; leaps = leaps i; texts = texts i }

-- a list of four elements and more is those at its first four places and the rest
pub four_and_more : {A : Type 0} (xs : List A) (a b c d : A) → 4 ≤ length xs → a ≡ get_or xs 0 a → b ≡ get_or xs 1 b → c ≡ get_or xs 2 c → d ≡ get_or xs 3 d → xs ≡ a ∷ b ∷ c ∷ d ∷ take (length xs - 4) (drop 4 xs)
four_and_more {A} xs a b c d h p q r s =
    by_places xs h p q r s ∙ ap (λ rest. a ∷ b ∷ c ∷ d ∷ rest) (sym (take_rest xs 4))
  where
    by_places : (xs : List A) → 4 ≤ length xs → a ≡ get_or xs 0 a → b ≡ get_or xs 1 b → c ≡ get_or xs 2 c → d ≡ get_or xs 3 d → xs ≡ a ∷ b ∷ c ∷ d ∷ drop 4 xs
    by_places [] h p q r s = absurd (omega arith)
    by_places (w ∷ []) h p q r s = absurd (omega arith)
    by_places (w ∷ x ∷ []) h p q r s = absurd (omega arith)
    by_places (w ∷ x ∷ y ∷ []) h p q r s = absurd (omega arith)
    by_places (w ∷ x ∷ y ∷ z ∷ xs) h p q r s = cc

-- texts that differ in a byte are not equal
pub unlike : (word entry : List ℕ) → true ≡ not (bytes_eq word entry) → word ≢ entry
unlike word entry h same = both_ways (bytes_eq word entry) (not-true (bytes_eq word entry) (sym h)) ((bytes_eq-Decides word entry).1 same)

-- Words that begin so are those of no batch: the keyword is another, the number isn't one of slots, or the others don't
-- name one to 64 texts.
pub other_keyword : (words texts : List (String Global)) (keyword script number leaps : String Global) (batch : BatchCommand) → words ≡ keyword ∷ script ∷ number ∷ leaps ∷ texts → string_bytes keyword ≢ codes "batch" → IsBatchCommand (words_of words) batch → ⊥
other_keyword words texts keyword script number leaps batch all unlike is =
    let are : words_of (keyword ∷ script ∷ number ∷ leaps ∷ texts) ≡ codes "batch" ∷ batch.script ∷ is.number ∷ batch.leaps ∷ is.named = sym (ap words_of all) ∙ is.words_are in
    unlike cc

pub no_texts : (words texts : List (String Global)) (keyword script number leaps : String Global) (batch : BatchCommand) → words ≡ keyword ∷ script ∷ number ∷ leaps ∷ texts → are_texts texts ≡ false → IsBatchCommand (words_of words) batch → ⊥
no_texts words texts keyword script number leaps batch all none is =
    let are : words_of (keyword ∷ script ∷ number ∷ leaps ∷ texts) ≡ codes "batch" ∷ batch.script ∷ is.number ∷ batch.leaps ∷ is.named = sym (ap words_of all) ∙ is.words_are in
    let named : is.named ≡ words_of texts = cc in
    let long : length is.named ≡ length texts = ap length named ∙ length-map texts string_bytes in
    let some_text = is.some_text in
    let few_texts = is.few_texts in
    let low : nat_le 1 (length texts) ≡ true = le-leb 1 (length texts) (omega (arith, long, some_text)) in
    let high : nat_le (length texts) (LAST_SOURCE + 1) ≡ true = le-leb (length texts) (LAST_SOURCE + 1) (omega (arith, long, few_texts)) in
    let each : name_texts texts ≡ true = texts_named texts batch.texts (subst (λ (them : List (List ℕ)). AllZip IsTextOf them batch.texts) named is.texts_are) in
    let yes : are_texts texts ≡ true = rw (low, high, each) refl in
    absurd (false≢true (sym none ∙ yes))

-- Words that begin so are those of that batch.
pub is_batch : (words texts : List (String Global)) (keyword script number leaps : String Global) (slots : ℕ) → words ≡ keyword ∷ script ∷ number ∷ leaps ∷ texts → string_bytes keyword ≡ codes "batch" → slot_count_of (string_bytes number) ≡ Some slots → are_texts texts ≡ true → IsBatchCommand (words_of words) (record { script = string_bytes script; slots = slots; leaps = string_bytes leaps; texts = texts_in texts })
is_batch words texts keyword script number leaps slots all starts slots_are are =
    let long : length (words_of texts) ≡ length texts = length-map texts string_bytes in
    let both = and_parts (nat_le 1 (length texts) && nat_le (length texts) (LAST_SOURCE + 1)) (name_texts texts) are in
    let range = and_parts (nat_le 1 (length texts)) (nat_le (length texts) (LAST_SOURCE + 1)) both.0 in
    let some_text = leb-true 1 (length texts) range.0 in
    let few_texts = leb-true (length texts) (LAST_SOURCE + 1) range.1 in
    record {
      number = string_bytes number;
      named = words_of texts;
      words_are = ap words_of all ∙ ap (λ (word : List ℕ). word ∷ string_bytes script ∷ string_bytes number ∷ string_bytes leaps ∷ words_of texts) starts;
      slots_are = slots_are;
      some_text = omega (arith, long, some_text);
      few_texts = omega (arith, long, few_texts);
      texts_are = each_text texts both.1;
    }
