-- The first letters of words and of the entries that they name.
use Rattle.std.proofs.Common.{◌≡◌, ℕ, ◌+◌, ◌%◌, ◌<◌, ◌≤◌, false, nat_eq, List, [], ◌∷◌, length, get_or, None, refl, arith}
use Rattle.std.proofs.lemmas.Bool.Decides.{nat_tests}
use Rattle.tz_specs.specs.Word.{lower, begins_entry, places_from, only_one}

-- case changes nothing of what is left by 32
lower_left : (byte : ℕ) → lower byte % 32 ≡ byte % 32
lower_left byte = grind (arith, nat_tests)

letters_differ : (first letter : ℕ) → nat_eq (letter % 32) (first % 32) ≡ false → nat_eq (lower first) (lower letter) ≡ false
letters_differ first letter differ =
    let left_first = lower_left first in
    let left_letter = lower_left letter in
    grind (arith, nat_tests)

pub other_letter : (first : ℕ) (word entry : List ℕ) → 1 ≤ length entry → nat_eq (get_or entry 0 0 % 32) (first % 32) ≡ false → begins_entry (first ∷ word) entry ≡ false
other_letter first word [] some differ = absurd (omega arith)
other_letter first word (letter ∷ entry) some differ = rw (letters_differ first letter differ) refl

pub no_letter : (first : ℕ) (word entry : List ℕ) → length entry < 1 → begins_entry (first ∷ word) entry ≡ false
no_letter first word [] none = refl
no_letter first word (letter ∷ entry) none = absurd (omega arith)

no_places : (place : ℕ) (entries : List (List ℕ)) → places_from place [] entries ≡ []
no_places place [] = refl
no_places place (entry ∷ entries) = no_places (place + 1) entries

pub empty_names_none : (word : List ℕ) (entries : List (List ℕ)) → length word < 1 → None ≡ only_one (places_from 0 word entries)
empty_names_none [] entries none = rw (no_places 0 entries) refl
empty_names_none (byte ∷ word) entries none = absurd (omega arith)
