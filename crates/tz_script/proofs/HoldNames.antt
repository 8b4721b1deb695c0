-- Names of holds.
use Rattle.std.proofs.Common.{◌≡◌, ℕ, ◌≤◌, true, false, List, [], ◌∷◌, length, IsTrue, refl, ⊎_elim, arith}
use Rattle.std.specs.List.{list_all}
use Rattle.std.proofs.lemmas.Bool.{cases_Bool}
use Rattle.tz_types.specs.Text.{IsText, is_printable}
use Rattle.tz_script.specs.declared.limit.TheConstants.{LONGEST_HOLD_NAME}
use Rattle.tz_script.specs.HoldName.{is_letter_or_digit, is_hold_name}

letter_is_visible : (byte : ℕ) → is_letter_or_digit byte ≡ true → is_printable byte ≡ true
letter_is_visible byte letter = grind arith

pub letters_are_visible : (word : List ℕ) → list_all is_letter_or_digit word ≡ true → list_all is_printable word ≡ true
letters_are_visible [] letters = refl
letters_are_visible (byte ∷ bytes) letters =
    let rest : list_all is_letter_or_digit bytes ≡ true = grind arith in
    let first : is_letter_or_digit byte ≡ true = grind arith in
    rw (letter_is_visible byte first, letters_are_visible bytes rest) refl

-- what is no text of 1 to 16 visible bytes is no name
pub no_text : (word : List ℕ) → list_all is_letter_or_digit word ≡ true → (IsText 1 LONGEST_HOLD_NAME word → ⊥) → is_hold_name word ≡ false
no_text word letters none =
    ⊎_elim
    (λ (name : is_hold_name word ≡ true).
    let low : 1 ≤ length word = grind arith in
    let high : length word ≤ LONGEST_HOLD_NAME = grind arith in
    let visible : IsTrue (list_all is_printable word) = rw (letters_are_visible word letters) refl in
    absurd (none (record { low = low; high = high; visible = visible })))
    (λ (other : is_hold_name word ≡ false). other)
    (cases_Bool (is_hold_name word))
