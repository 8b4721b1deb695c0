-- Parts, and the first place of a mark.
use Rattle.std.proofs.Common.{◌≡◌, ℕ, ◌<◌, ◌≤◌, ◌==◌, true, false, if◌then◌else◌, List, [], ◌∷◌, length, Some, nat_lt, refl, ap, ◌∙◌, sym, arith}
use Rattle.std.specs.List.{position, position_or_len, slice_split, before_first, after_first, list_all, join_with_byte}
use mathlib.Core.Logic.{⊎_elim}
use Rattle.std.proofs.lemmas.Bool.{cases_lt, lt-ltb}
use Rattle.std.proofs.lemmas.List.Elements.{All-from_get_or}
use Rattle.std.proofs.lemmas.List.Sums.{fails_before_first}
use Rattle.std.proofs.lemmas.List.Splits.{slice_split_none, slice_split_first, join_with_byte-slice_split, length-slice_split}
use Rattle.tz_specs.specs.Number.{is_digit}
use Rattle.tz_specs.specs.Parts.{parts_at, onto_part}
use Rattle.tz_text.specs.Marks.{parts_round}

-- parts are what the library's split gives
pub parts_split : (mark : ℕ) (word : List ℕ) → parts_at mark word ≡ slice_split (λ byte. byte == mark) word
parts_split mark [] = refl
parts_split mark (byte ∷ bytes) =
    elim (byte == mark) as (λ b. (if b then [] ∷ parts_at mark bytes else onto_part byte (parts_at mark bytes)) ≡ (if b then ([] ∷ slice_split (λ x. x == mark) bytes) else onto_part byte (slice_split (λ x. x == mark) bytes)))
    [ true ↦ ap (λ parts. [] ∷ parts) (parts_split mark bytes) | false ↦ ap (onto_part byte) (parts_split mark bytes) ]

-- there is always a part
pub parts_are : (mark : ℕ) (word : List ℕ) → 0 < length (parts_at mark word)
parts_are mark word = rw (parts_split mark word, length-slice_split (λ byte. byte == mark) word) (omega arith)

-- a mark behind which other parts follow
pub parts_marked : (mark : ℕ) (word : List ℕ) → position_or_len (λ byte. byte == mark) word < length word →
    parts_at mark word ≡ parts_round (Some (position_or_len (λ byte. byte == mark) word)) mark word
parts_marked mark word within =
    parts_split mark word ∙ slice_split_first (λ byte. byte == mark) word 0 within
    ∙ ap (λ parts. before_first (λ byte. byte == mark) word ∷ parts) (sym (parts_split mark (after_first (λ byte. byte == mark) word)))

-- no mark, and one part
pub parts_unmarked : (mark : ℕ) (word : List ℕ) → length word ≤ position_or_len (λ byte. byte == mark) word → parts_at mark word ≡ word ∷ []
parts_unmarked mark word past =
    parts_split mark word ∙ slice_split_none (λ byte. byte == mark) word
    (All-from_get_or (λ byte. (byte == mark) ≡ false) word 0 (λ k within. fails_before_first (λ byte. byte == mark) word k 0 (omega arith)))

pub parts_placed : (mark : ℕ) (word : List ℕ) → parts_at mark word ≡ parts_round (position (λ byte. byte == mark) word) mark word
parts_placed mark word =
    ⊎_elim (λ (within : position_or_len (λ byte. byte == mark) word < length word). rw (lt-ltb (position_or_len (λ byte. byte == mark) word) (length word) within) (parts_marked mark word within))
    (λ (past : length word ≤ position_or_len (λ byte. byte == mark) word).
    let is : nat_lt (position_or_len (λ byte. byte == mark) word) (length word) ≡ false = grind arith in
    rw is (parts_unmarked mark word past))
    (cases_lt (position_or_len (λ byte. byte == mark) word) (length word))

-- a single part is the whole
pub one_part : (mark : ℕ) (word part : List ℕ) → parts_at mark word ≡ part ∷ [] → word ≡ part
one_part mark word part one =
    sym (join_with_byte-slice_split mark word) ∙ ap (join_with_byte mark) (sym (parts_split mark word) ∙ one)

-- digits have no other byte among them
pub digits_unmarked : (mark : ℕ) (word : List ℕ) → ((byte : ℕ) → is_digit byte ≡ true → (byte == mark) ≡ false) → list_all is_digit word ≡ true → parts_at mark word ≡ word ∷ []
digits_unmarked mark [] other digits = refl
digits_unmarked mark (byte ∷ bytes) other digits =
    let rest : list_all is_digit bytes ≡ true = grind arith in
    let first : is_digit byte ≡ true = grind arith in
    rw (other byte first, digits_unmarked mark bytes other rest) refl

pub no_point : (byte : ℕ) → is_digit byte ≡ true → (byte == 0x2e) ≡ false
no_point byte digit = grind arith

pub no_colon : (byte : ℕ) → is_digit byte ≡ true → (byte == 0x3a) ≡ false
no_colon byte digit = grind arith
