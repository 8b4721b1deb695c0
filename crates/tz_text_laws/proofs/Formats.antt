-- Formats are of their forms.
use Rattle.std.proofs.Common.{◌≡◌, ℕ, suc, ◌+◌, ◌≤◌, Bool, true, false, not, ◌&&◌, ◌||◌, ◌==◌, nat_le, IsTrue, if◌then◌else◌, List, [], ◌∷◌, ◌++◌, length, Some, None, refl, sym, ap, ◌∙◌, ⊎_elim, arith, subst, length-append}
use Rattle.std.specs.List.{list_all, list_any}
use Rattle.std.proofs.lemmas.Bool.{cases_Bool}
use Rattle.std.proofs.lemmas.Bool.Decides.{nat_tests}
use Rattle.tz_types.specs.declared.limit.TheConstants.{LONGEST_FORMAT}
use Rattle.tz_types.specs.Format.{is_plain_part, is_format_length, is_format}
use Rattle.tz_types.specs.declared.format.Format.{Format}
use Rattle.tz_types.specs.declared.format.Format.TheVariants as formats
use Rattle.tz_specs.specs.Choice.{only_if}
use Rattle.tz_specs.specs.Parts.{parts_at, onto_part}
use Rattle.tz_specs.specs.Word.{is_empty}
use Rattle.tz_specs.specs.Value.{is_bad_name, plain_format_of, marked_format_of, format_of_parts, format_of}
use Rattle.tz_specs.proofs.AscendingLemmas.{both_hold}
use Rattle.tz_text_laws.proofs.Choices.{bind_some, only_some, some_same}

-- no such byte is there
abbrev lacks : ℕ → List ℕ → Bool
lacks mark bytes = list_all (λ byte. not (byte == mark)) bytes

abbrev Cut : ℕ → List ℕ → List (List ℕ) → Type 0
Cut mark bytes [] = ⊥
Cut mark bytes (x ∷ []) = (x ≡ bytes) × IsTrue (lacks mark bytes)
Cut mark bytes (x ∷ y ∷ []) = (bytes ≡ x ++ mark ∷ y) × IsTrue (lacks mark x) × IsTrue (lacks mark y)
Cut mark bytes (x ∷ y ∷ z ∷ parts) = Unit {0}

onto : (mark byte : ℕ) (bytes : List ℕ) (parts : List (List ℕ)) → (byte == mark) ≡ false → Cut mark bytes parts → Cut mark (byte ∷ bytes) (onto_part byte parts)
onto mark byte bytes [] other h = absurd h
onto mark byte bytes (x ∷ []) other h = (ap (λ xs. byte ∷ xs) h.0, rw other h.1)
onto mark byte bytes (x ∷ y ∷ []) other h = (ap (λ xs. byte ∷ xs) h.0, rw other h.1, h.2)
onto mark byte bytes (x ∷ y ∷ z ∷ parts) other h = tt

at_mark : (mark byte : ℕ) (bytes : List ℕ) (parts : List (List ℕ)) → byte ≡ mark → Cut mark bytes parts → Cut mark (byte ∷ bytes) ([] ∷ parts)
at_mark mark byte bytes [] is h = absurd h
at_mark mark byte bytes (x ∷ []) is h = (rw (is, h.0) refl, refl, rw h.0 h.1)
at_mark mark byte bytes (x ∷ y ∷ parts) is h = tt

is_cut : (mark : ℕ) (bytes : List ℕ) → Cut mark bytes (parts_at mark bytes)
is_cut mark [] = (refl, refl)
is_cut mark (byte ∷ bytes) =
    ⊎_elim (λ (here : (byte == mark) ≡ true).
    let is : byte ≡ mark = grind (arith, nat_tests) in
    rw here (at_mark mark byte bytes (parts_at mark bytes) is (is_cut mark bytes)))
    (λ (other : (byte == mark) ≡ false). rw other (onto mark byte bytes (parts_at mark bytes) other (is_cut mark bytes)))
    (cases_Bool (byte == mark))

both_lack : (bytes : List ℕ) → IsTrue (lacks 0x25 bytes) → IsTrue (lacks 0x2f bytes) → IsTrue (is_plain_part bytes)
both_lack [] first second = refl
both_lack (byte ∷ bytes) first second =
    let one = both_hold (not (byte == 0x25)) (lacks 0x25 bytes) first in
    let two = both_hold (not (byte == 0x2f)) (lacks 0x2f bytes) second in
    let neither : IsTrue (not ((byte == 0x25) || (byte == 0x2f))) = none_of (byte == 0x25) (byte == 0x2f) one.0 two.0 in
    rw neither (both_lack bytes one.1 two.1)
  where
    none_of : (a b : Bool) → IsTrue (not a) → IsTrue (not b) → IsTrue (not (a || b))
    none_of true b h k = absurd (cc)
    none_of false b h k = k

lacks_parts : (mark : ℕ) (xs ys : List ℕ) → IsTrue (lacks mark (xs ++ ys)) → IsTrue (lacks mark xs) × IsTrue (lacks mark ys)
lacks_parts mark [] ys h = (refl, h)
lacks_parts mark (x ∷ xs) ys h =
    let one = both_hold (not (x == mark)) (lacks mark (xs ++ ys)) h in
    let later = lacks_parts mark xs ys one.1 in
    (rw one.0 later.0, later.1)

none_lacks : (mark : ℕ) (bytes : List ℕ) → list_any (λ byte. byte == mark) bytes ≡ false → IsTrue (lacks mark bytes)
none_lacks mark [] h = refl
none_lacks mark (byte ∷ bytes) h =
    ⊎_elim (λ (here : (byte == mark) ≡ true). let bad : true ≡ false = rw here at h in absurd (cc))
    (λ (other : (byte == mark) ≡ false). rw other (none_lacks mark bytes (rw other at h)))
    (cases_Bool (byte == mark))

lengths : (n : ℕ) → 1 ≤ n → n ≤ LONGEST_FORMAT → IsTrue (is_format_length n)
lengths n low high = grind (arith, nat_tests)

plain_form : (field : List ℕ) (format : Format) → 1 ≤ length field → length field ≤ LONGEST_FORMAT → IsTrue (lacks 0x25 field) → (parts : List (List ℕ)) → Cut 0x2f field parts → plain_format_of parts ≡ Some format → IsTrue (is_format format)
plain_form field format low high no_percent [] cut h = absurd (cc)
plain_form field format low high no_percent (text ∷ []) cut h =
    let is : formats.Text text ≡ format = some_same (formats.Text text) format h in
    let plain : IsTrue (is_format (formats.Text field)) = rw (both_lack field no_percent cut.1) (lengths (length field) low high) in
    subst (λ it. IsTrue (is_format it)) is (subst (λ it. IsTrue (is_format (formats.Text it))) (sym cut.0) plain)
plain_form field format low high no_percent (standard ∷ daylight ∷ []) cut h =
    let test = only_some (not (is_empty standard) && not (is_empty daylight)) (formats.Pair standard daylight) format h in
    let full = both_hold (not (is_empty standard)) (not (is_empty daylight)) test.0 in
    let lack = lacks_parts 0x25 standard (0x2f ∷ daylight) (subst (λ it. IsTrue (lacks 0x25 it)) cut.0 no_percent) in
    let count : length field ≡ length standard + suc (length daylight) = ap length cut.0 ∙ length-append standard (0x2f ∷ daylight) in
    let first : IsTrue (nat_le 1 (length standard)) = full_length standard full.0 in
    let second : IsTrue (nat_le 1 (length daylight)) = full_length daylight full.1 in
    let size : IsTrue (is_format_length (length standard + 1 + length daylight)) = lengths (length standard + 1 + length daylight) (omega (arith, low, count)) (omega (arith, high, count)) in
    subst (λ it. IsTrue (is_format it)) test.1
    (rw (both_lack standard lack.0 cut.1, both_lack daylight (both_hold (not (0x2f == 0x25)) (lacks 0x25 daylight) lack.1).1 cut.2, first, second) size)
  where
    full_length : (xs : List ℕ) → IsTrue (not (is_empty xs)) → IsTrue (nat_le 1 (length xs))
    full_length [] h = absurd (cc)
    full_length (x ∷ xs) h = grind (arith, nat_tests)
plain_form field format low high no_percent (standard ∷ daylight ∷ other ∷ parts) cut h = absurd (cc)

marked_form : (field before rest : List ℕ) (format : Format) → field ≡ before ++ 0x25 ∷ rest → length field ≤ LONGEST_FORMAT → IsTrue (lacks 0x25 before) → IsTrue (lacks 0x25 rest) → marked_format_of before rest ≡ Some format → IsTrue (is_format format)
marked_form field before [] format is high first second h = absurd (cc)
marked_form field before (letter ∷ after) format is high first second h =
    ⊎_elim (λ (slash : (list_any (λ byte. byte == 0x2f) before || list_any (λ byte. byte == 0x2f) after) ≡ true).
    let bad : None ≡ Some format = rw slash at h in absurd (cc))
    (λ (none : (list_any (λ byte. byte == 0x2f) before || list_any (λ byte. byte == 0x2f) after) ≡ false).
    let lack = neither (list_any (λ byte. byte == 0x2f) before) (list_any (λ byte. byte == 0x2f) after) none in
    let plain = both_lack before first (none_lacks 0x2f before lack.0) in
    let also = both_lack after (both_hold (not (letter == 0x25)) (lacks 0x25 after) second).1 (none_lacks 0x2f after lack.1) in
    let count : length field ≡ length before + suc (suc (length after)) = ap length is ∙ length-append before (0x25 ∷ letter ∷ after) in
    let size : IsTrue (is_format_length (length before + 2 + length after)) = lengths (length before + 2 + length after) (omega arith) (omega (arith, high, count)) in
    by_letter plain also size (rw none at h))
    (cases_Bool (list_any (λ byte. byte == 0x2f) before || list_any (λ byte. byte == 0x2f) after))
  where
    neither : (a b : Bool) → (a || b) ≡ false → (a ≡ false) × (b ≡ false)
    neither true b h = absurd (cc)
    neither false b h = (refl, h)

    by_letter : IsTrue (is_plain_part before) → IsTrue (is_plain_part after) → IsTrue (is_format_length (length before + 2 + length after)) → (if letter == 0x73 then Some (formats.Letters before after) else (if letter == 0x7a then Some (formats.Offset before after) else None)) ≡ Some format → IsTrue (is_format format)
    by_letter plain also size h =
        ⊎_elim (λ (is : (letter == 0x73) ≡ true).
        let same = some_same (formats.Letters before after) format (rw is at h) in
        subst (λ it. IsTrue (is_format it)) same (rw (plain, also) size))
        (λ (other : (letter == 0x73) ≡ false).
        ⊎_elim (λ (is : (letter == 0x7a) ≡ true).
        let same = some_same (formats.Offset before after) format (rw (other, is) at h) in
        subst (λ it. IsTrue (is_format it)) same (rw (plain, also) size))
        (λ (none : (letter == 0x7a) ≡ false). let bad : None ≡ Some format = rw (other, none) at h in absurd (cc))
        (cases_Bool (letter == 0x7a)))
        (cases_Bool (letter == 0x73))

parts_form : (field : List ℕ) (format : Format) → 1 ≤ length field → length field ≤ LONGEST_FORMAT → (parts : List (List ℕ)) → Cut 0x25 field parts → format_of_parts parts ≡ Some format → IsTrue (is_format format)
parts_form field format low high [] cut h = absurd (cc)
parts_form field format low high (text ∷ []) cut h =
    plain_form field format low high cut.1 (parts_at 0x2f field) (is_cut 0x2f field) (subst (λ it. plain_format_of (parts_at 0x2f it) ≡ Some format) cut.0 h)
parts_form field format low high (before ∷ rest ∷ []) cut h = marked_form field before rest format cut.0 high cut.1 cut.2 h
parts_form field format low high (before ∷ rest ∷ other ∷ parts) cut h = absurd (cc)

full : (field : List ℕ) → IsTrue (not (is_bad_name field)) → 1 ≤ length field
full [] h = absurd (cc)
full (byte ∷ field) h = omega arith

-- a format of at most 24 bytes is of its form
pub format_form : (field : List ℕ) (format : Format) → format_of field ≡ Some format → length field ≤ LONGEST_FORMAT → IsTrue (is_format format)
unfolding format_of
format_form field format h high =
    let text = bind_some (only_if (not (is_bad_name field)) field) (λ text. format_of_parts (parts_at 0x25 text)) format h in
    let test = only_some (not (is_bad_name field)) field text.0 text.1 in
    parts_form field format (full field test.0) high (parts_at 0x25 field) (is_cut 0x25 field)
    (subst (λ it. format_of_parts (parts_at 0x25 it) ≡ Some format) (sym test.1) text.2)
