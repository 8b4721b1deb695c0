-- How a word falls into its parts.
use Rattle.std.proofs.Common.{◌≡◌, ◌≢◌, ℕ, ◌+◌, ◌<◌, ◌≤◌, ◌==◌, nat_le, true, false, List, [], ◌∷◌, ◌++◌, length, get_or, Option, if◌then◌else◌, Some, None, refl, ap, arith}
use Rattle.std.proofs.lemmas.Bool.Decides.{nat_tests}
use Rattle.std.proofs.lemmas.Grind.{common_steps}
use Rattle.std.specs.Borrow.{Bor}
use Rattle.tz_specs.specs.Parts.{onto_part}
use Rattle.tz_types.specs.declared.limit.TheConstants.{MOST_FILES}
use Rattle.tz_words.specs.NamedText.{parts_of, are_names, are_file_names, text_with_names, named_text_of}

-- the bytes of names that are left, and a comma before them
abbrev pub bytes_left : Option (Bor (List ℕ)) → ℕ
bytes_left None = 0
bytes_left (Some later) = length later.now + 1

-- no byte of the list is a comma
abbrev HasNoComma : List ℕ → Type 0
HasNoComma bytes = (i : ℕ) → i < length bytes → get_or bytes i 0 ≢ 0x2c

head_differs : (byte : ℕ) (bytes : List ℕ) → HasNoComma (byte ∷ bytes) → (byte == 0x2c) ≡ false
head_differs byte bytes none = let other : byte ≢ 0x2c = none 0 (grind (arith, common_steps)) in grind (arith, nat_tests)

tail_has_none : (byte : ℕ) (bytes : List ℕ) → HasNoComma (byte ∷ bytes) → HasNoComma bytes
tail_has_none byte bytes none i within = let later = none (i + 1) (grind (arith, common_steps)) in grind (arith, common_steps)

pub one_name : (bytes : List ℕ) → HasNoComma bytes → parts_of bytes ≡ bytes ∷ []
one_name [] none = refl
one_name (byte ∷ bytes) none = rw (head_differs byte bytes none, one_name bytes (tail_has_none byte bytes none)) refl

pub more_names : (bytes later : List ℕ) → HasNoComma bytes → parts_of (bytes ++ 0x2c ∷ later) ≡ bytes ∷ parts_of later
more_names [] later none = refl
more_names (byte ∷ bytes) later none = rw (head_differs byte bytes none, more_names bytes later (tail_has_none byte bytes none)) refl

-- there is always a first part
pub some_part : (bytes : List ℕ) → 1 ≤ length (parts_of bytes)
some_part [] = omega arith
some_part (byte ∷ bytes) = elim (byte == 0x2c) as (λ b. 1 ≤ length (if b then [] ∷ parts_of bytes else onto_part byte (parts_of bytes))) [ true ↦ omega arith | false ↦ onto (parts_of bytes) ]
  where
    onto : (parts : List (List ℕ)) → 1 ≤ length (onto_part byte parts)
    onto [] = omega arith
    onto (part ∷ parts) = omega arith

-- few names are files' names, where none is empty
pub fit_names : (names : List (List ℕ)) → 1 ≤ length names → length names ≤ MOST_FILES → are_names names ≡ true → are_file_names names ≡ true
fit_names names some few are =
    let low : nat_le 1 (length names) ≡ true = grind (arith, nat_tests) in
    let high : nat_le (length names) MOST_FILES ≡ true = grind (arith, nat_tests) in
    rw (low, high, are) refl

-- a word that doesn't begin with `=` names files alone
pub files_alone : (word : List ℕ) → ((rest : List ℕ) → word ≢ 0x3d ∷ rest) → text_with_names None (parts_of word) ≡ named_text_of word
files_alone [] other = refl
files_alone (byte ∷ bytes) other =
    let unlike : byte ≢ 0x3d = λ same. other bytes (ap (λ (byte : ℕ). byte ∷ bytes) same) in
    let test : (byte == 0x3d) ≡ false = grind (arith, nat_tests) in
    rw test refl
