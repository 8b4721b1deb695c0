-- Where a line is cut into words, and before its comment.
use Rattle.std.proofs.Common.{◌≡◌, ℕ, zero, suc, ◌<◌, ◌≤◌, length-drop, Bool, true, false, not, List, [], ◌∷◌, length, take, drop, get_or, Some, None, refl, ap, ◌∙◌, ⊎_elim, arith}
use Rattle.std.specs.List.{position, position_or_len}
use Rattle.std.proofs.lemmas.Bool.{cases_lt, lt-ltb}
use Rattle.std.proofs.lemmas.List.{drop_all}
use Rattle.std.proofs.lemmas.List.Quantifiers.{position-Some}
use Rattle.std.proofs.lemmas.List.Sums.{fails_before_first}
use Rattle.tz_specs.specs.Parts.{onto_part}
use Rattle.tz_script.specs.Words.{is_space, is_hash, before_comment, spaced_parts, script_words}

-- no byte before the place passes
abbrev pub NoneBefore : (ℕ → Bool) → List ℕ → ℕ → Type 0
NoneBefore test text place = (k : ℕ) → k < place → test (get_or text k 0) ≡ false

later : (test : ℕ → Bool) (byte : ℕ) (text : List ℕ) (place : ℕ) → NoneBefore test (byte ∷ text) (suc place) → NoneBefore test text place
later test byte text place none k low = none (suc k) (omega arith)

-- where no byte passes, none does before the end
pub nowhere : (test : ℕ → Bool) (text : List ℕ) → position test text ≡ None → NoneBefore test text (length text)
nowhere test text none k low =
    ⊎_elim
    (λ (within : position_or_len test text < length text).
    let some : Some (position_or_len test text) ≡ None = rw (lt-ltb (position_or_len test text) (length text) within) at none in
    cc)
    (λ (past : length text ≤ position_or_len test text). fails_before_first test text k 0 (omega arith))
    (cases_lt (position_or_len test text) (length text))

comment_at : (line : List ℕ) (place : ℕ) → place < length line → is_hash (get_or line place 0) ≡ true → NoneBefore is_hash line place → take place line ≡ before_comment line
unfolding before_comment
comment_at [] place low is none = absurd (omega arith)
comment_at (byte ∷ line) zero low is none = rw is refl
comment_at (byte ∷ line) (suc place) low is none =
    rw (none 0 (omega arith)) (ap (λ rest. byte ∷ rest) (comment_at line place (omega arith) is (later is_hash byte line place none)))

no_comment : (line : List ℕ) → NoneBefore is_hash line (length line) → line ≡ before_comment line
unfolding before_comment
no_comment [] none = refl
no_comment (byte ∷ line) none =
    rw (none 0 (omega arith)) (ap (λ rest. byte ∷ rest) (no_comment line (later is_hash byte line (length line) none)))

-- a line up to its first `#`
pub cut_comment : (line : List ℕ) (place : ℕ) → position is_hash line ≡ Some place → take place line ≡ before_comment line
cut_comment line place e =
    let at = position-Some is_hash line place 0 e in comment_at line place at.0 at.1 at.2

-- a line without `#`
pub uncut_comment : (line : List ℕ) → position is_hash line ≡ None → line ≡ before_comment line
uncut_comment line e = no_comment line (nowhere is_hash line e)

-- bytes that aren't spaces are where words begin
abbrev pub is_of_word : ℕ → Bool
is_of_word byte = not (is_space byte)

is_spaced : (byte : ℕ) → is_of_word byte ≡ false → is_space byte ≡ true
is_spaced byte h = by_test (is_space byte) h
  where
    by_test : (test : Bool) → not test ≡ false → test ≡ true
    by_test true h = refl
    by_test false h = cc

is_unspaced : (byte : ℕ) → is_of_word byte ≡ true → is_space byte ≡ false
is_unspaced byte h = by_test (is_space byte) h
  where
    by_test : (test : Bool) → not test ≡ true → test ≡ false
    by_test true h = cc
    by_test false h = refl

-- a text of spaces has no words
pub only_spaces : (text : List ℕ) → NoneBefore is_of_word text (length text) → script_words text ≡ []
unfolding script_words spaced_parts
only_spaces [] none = refl
only_spaces (byte ∷ text) none =
    rw (is_spaced byte (none 0 (omega arith))) (only_spaces text (later is_of_word byte text (length text) none))

-- the words of a text are those behind its first spaces
pub behind_spaces : (text : List ℕ) (begin : ℕ) → begin < length text → NoneBefore is_of_word text begin → script_words text ≡ script_words (drop begin text)
unfolding script_words spaced_parts
behind_spaces [] begin low none = absurd (omega arith)
behind_spaces (byte ∷ text) zero low none = refl
behind_spaces (byte ∷ text) (suc begin) low none =
    rw (is_spaced byte (none 0 (omega arith))) (behind_spaces text begin (omega arith) (later is_of_word byte text begin none))

parts_at_space : (text : List ℕ) (end : ℕ) → end < length text → is_space (get_or text end 0) ≡ true → NoneBefore is_space text end → spaced_parts text ≡ take end text ∷ spaced_parts (drop (suc end) text)
unfolding spaced_parts
parts_at_space [] end low is none = absurd (omega arith)
parts_at_space (byte ∷ text) zero low is none = rw is refl
parts_at_space (byte ∷ text) (suc end) low is none =
    rw (none 0 (omega arith)) (ap (onto_part byte) (parts_at_space text end (omega arith) is (later is_space byte text end none)))

one_part : (text : List ℕ) → NoneBefore is_space text (length text) → spaced_parts text ≡ text ∷ []
unfolding spaced_parts
one_part [] none = refl
one_part (byte ∷ text) none =
    rw (none 0 (omega arith)) (ap (onto_part byte) (one_part text (later is_space byte text (length text) none)))

first_word : (text : List ℕ) (end : ℕ) → is_space (get_or text 0 0) ≡ false → end < length text → is_space (get_or text end 0) ≡ true → NoneBefore is_space text end → script_words text ≡ take end text ∷ script_words (drop (suc end) text)
unfolding script_words
first_word [] end first low is none = absurd (omega arith)
first_word (byte ∷ text) zero first low is none = cc
first_word (byte ∷ text) (suc end) first low is none =
    rw (parts_at_space (byte ∷ text) (suc end) low is none) refl

last_word : (text : List ℕ) → 0 < length text → NoneBefore is_space text (length text) → script_words text ≡ text ∷ []
unfolding script_words
last_word [] some none = absurd (omega arith)
last_word (byte ∷ text) some none = rw (one_part (byte ∷ text) none) refl

pub words_none : script_words [] ≡ []
unfolding script_words spaced_parts
words_none = refl

-- a text whose first word ends at a space
pub word_cut : (text : List ℕ) (begin end : ℕ) → position is_of_word text ≡ Some begin → position is_space (drop begin text) ≡ Some end → script_words text ≡ take end (drop begin text) ∷ script_words (drop (suc end) (drop begin text))
word_cut text begin end from to =
    let at = position-Some is_of_word text begin 0 from in
    let stop = position-Some is_space (drop begin text) end 0 to in
    let first : is_space (get_or (drop begin text) 0 0) ≡ false = rw (get_or_drop text begin) (is_unspaced (get_or text begin 0) at.1) in
    behind_spaces text begin at.0 at.2 ∙ first_word (drop begin text) end first stop.0 stop.1 stop.2
  where
    get_or_drop : (text : List ℕ) (begin : ℕ) → get_or (drop begin text) 0 0 ≡ get_or text begin 0
    get_or_drop [] zero = refl
    get_or_drop [] (suc begin) = refl
    get_or_drop (byte ∷ text) zero = refl
    get_or_drop (byte ∷ text) (suc begin) = get_or_drop text begin

-- a text whose first word is its last
pub word_last : (text : List ℕ) (begin : ℕ) → position is_of_word text ≡ Some begin → position is_space (drop begin text) ≡ None → script_words text ≡ drop begin text ∷ []
word_last text begin from none =
    let at = position-Some is_of_word text begin 0 from in
    let some : 0 < length (drop begin text) = omega (arith, length-drop {A = ℕ}) in
    behind_spaces text begin at.0 at.2 ∙ last_word (drop begin text) some (nowhere is_space (drop begin text) none)

-- nothing stands behind the end
pub nothing_behind : (text : List ℕ) → drop (length text) text ≡ []
nothing_behind text = drop_all (length text) text (omega arith)
