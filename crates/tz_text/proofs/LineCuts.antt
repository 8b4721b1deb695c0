-- How a text is cut into lines at its first newline.
use Rattle.std.proofs.Common.{◌≡◌, ℕ, zero, suc, ◌<◌, ◌==◌, Bool, true, false, List, [], ◌∷◌, length, take, drop, slice_index, eqb, refl, ⊎_elim, arith}
use Rattle.std.specs.List.{list_any}
use Rattle.std.proofs.lemmas.Bool.{cases_Bool, or_parts}
use Rattle.std.proofs.lemmas.Bool.Decides.{nat_tests}
use Rattle.std.proofs.lemmas.List.{drop_all}
use Rattle.memchr.specs.Find.{Nowhere, Passes, is_byte}
use Rattle.tz_specs.specs.Line.{lines_of}

-- no newline stands before the place
abbrev pub NoneBefore : List ℕ → ℕ → Type 0
NoneBefore text end = Nowhere (Passes (is_byte 10) text) 0 end

next_NoneBefore : (byte : ℕ) (text : List ℕ) (end : ℕ) → NoneBefore (byte ∷ text) (suc end) → NoneBefore text end
next_NoneBefore byte text end none k low high passes = none (suc k) (omega arith) (omega arith) passes

first_is_not : (byte : ℕ) (text : List ℕ) (end : ℕ) → NoneBefore (byte ∷ text) (suc end) → eqb byte 10 ≡ false
first_is_not byte text end none =
    ⊎_elim (λ (e : eqb byte 10 ≡ true). absurd (none 0 (omega arith) (omega arith) e)) (λ (e : eqb byte 10 ≡ false). e) (cases_Bool (eqb byte 10))

-- a text without a newline is one line
pub last_line : (text : List ℕ) → 0 < length text → NoneBefore text (length text) → lines_of text ≡ text ∷ []
unfolding lines_of
last_line [] some none = absurd (omega arith)
last_line (byte ∷ []) some none = rw (first_is_not byte [] 0 none) refl
last_line (byte ∷ next ∷ text) some none =
    rw (first_is_not byte (next ∷ text) (suc (length text)) none) (rw (last_line (next ∷ text) (omega arith) (next_NoneBefore byte (next ∷ text) (suc (length text)) none)) refl)

-- a text is its first line, up to the first newline, and the lines after it
pub first_line : (text : List ℕ) (end : ℕ) → end < length text → NoneBefore text end → slice_index text end ≡ 10 → lines_of text ≡ take end text ∷ lines_of (drop (suc end) text)
unfolding lines_of
first_line [] end low none is = absurd (omega arith)
first_line (byte ∷ text) zero low none is = rw is refl
first_line (byte ∷ text) (suc end) low none is =
    rw (first_is_not byte text end none) (rw (first_line text end (omega arith) (next_NoneBefore byte text end none) is) refl)

pub lines-none : lines_of [] ≡ []
unfolding lines_of
lines-none = refl

pub is_newline : (byte : ℕ) → is_byte 10 byte ≡ true → byte ≡ 10
is_newline byte h = grind (arith, nat_tests)

-- nothing is left after the last line
pub none_left : (text : List ℕ) → drop (length text) text ≡ []
none_left text = drop_all (length text) text (omega arith)

pub nothing_left : (text : List ℕ) → true ≡ eqb (length text) 0 → text ≡ []
nothing_left [] h = refl
nothing_left (byte ∷ text) h = absurd (omega (arith, some_left (suc (length text)) h))
  where
    some_left : (n : ℕ) → true ≡ eqb n 0 → n ≡ 0
    some_left n h = grind (arith, nat_tests)

-- what no byte passes, none of some of them does

pub none_taken : (test : ℕ → Bool) (count : ℕ) (bytes : List ℕ) → list_any test bytes ≡ false → list_any test (take count bytes) ≡ false
none_taken test zero bytes none = refl
none_taken test (suc count) [] none = refl
none_taken test (suc count) (byte ∷ bytes) none =
    let both = or_parts (test byte) (list_any test bytes) none in
    rw (both.0) (none_taken test count bytes both.1)

pub none_dropped : (test : ℕ → Bool) (count : ℕ) (bytes : List ℕ) → list_any test bytes ≡ false → list_any test (drop count bytes) ≡ false
none_dropped test zero bytes none = none
none_dropped test (suc count) [] none = refl
none_dropped test (suc count) (byte ∷ bytes) none =
    none_dropped test count bytes (or_parts (test byte) (list_any test bytes) none).1

-- a text in which no place has a NUL byte
pub none_nul : (text : List ℕ) → Nowhere (Passes (is_byte 0) text) 0 (length text) → list_any (λ byte. byte == 0) text ≡ false
none_nul [] none = refl
none_nul (byte ∷ text) none =
    let first : eqb byte 0 ≡ false = ⊎_elim (λ (e : eqb byte 0 ≡ true). absurd (none 0 (omega arith) (omega arith) e)) (λ (e : eqb byte 0 ≡ false). e) (cases_Bool (eqb byte 0)) in
    rw first (none_nul text (λ k low high passes. none (suc k) (omega arith) (omega arith) passes))
