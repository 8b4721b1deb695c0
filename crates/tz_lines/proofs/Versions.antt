-- The version of a text: that of its first line, without the white space at its end.
use Rattle.std.proofs.Common.{◌≡◌, ℕ, zero, suc, ◌-◌, ◌<◌, ◌≤◌, true, false, List, [], ◌∷◌, ◌++◌, length, take, get_or, codes, refl, sym, arith}
use Rattle.std.proofs.lemmas.Bool.{and_right}
use Rattle.std.proofs.Math.Seq.{take-suc}
use Rattle.tz_specs.specs.Field.{is_white}
use Rattle.tz_specs.specs.Word.{is_empty}
use Rattle.tz_specs.specs.Line.{lines_of}
use Rattle.tz_specs.specs.Reads.{without_white_end, version_of_line, version_of_text}

-- white space behind all others is taken off
white_pushed : (bytes : List ℕ) (byte : ℕ) → is_white byte ≡ true → without_white_end (bytes ++ byte ∷ []) ≡ without_white_end bytes
white_pushed [] byte white = rw white refl
white_pushed (first ∷ bytes) byte white = rw (white_pushed bytes byte white) refl

some_pushed : (bytes : List ℕ) (byte : ℕ) → is_empty (bytes ++ byte ∷ []) ≡ false
some_pushed [] byte = refl
some_pushed (first ∷ bytes) byte = refl

-- behind another byte nothing is
other_pushed : (bytes : List ℕ) (byte : ℕ) → is_white byte ≡ false → without_white_end (bytes ++ byte ∷ []) ≡ bytes ++ byte ∷ []
other_pushed [] byte other = rw other refl
other_pushed (first ∷ bytes) byte other =
    rw (other_pushed bytes byte other) (rw (some_pushed bytes byte) (rw (and_right (is_white first) false refl) refl))

-- the same of the front of bytes, up to a place

pub white_before : (bytes : List ℕ) (end : ℕ) → 0 < end → end ≤ length bytes → is_white (get_or bytes (end - 1) 0) ≡ true → without_white_end (take (end - 1) bytes) ≡ without_white_end (take end bytes)
white_before bytes zero some within white = absurd (omega arith)
white_before bytes (suc end) some within white =
    let one : suc end - 1 ≡ end = omega arith in
    let at : is_white (get_or bytes end 0) ≡ true = rw one at white in
    let more : take (suc end) bytes ≡ take end bytes ++ get_or bytes end 0 ∷ [] = take-suc bytes end 0 (omega arith) in
    rw (one, more) (sym (white_pushed (take end bytes) (get_or bytes end 0) at))

pub other_before : (bytes : List ℕ) (end : ℕ) → 0 < end → end ≤ length bytes → is_white (get_or bytes (end - 1) 0) ≡ false → take end bytes ≡ without_white_end (take end bytes)
other_before bytes zero some within other = absurd (omega arith)
other_before bytes (suc end) some within other =
    let one : suc end - 1 ≡ end = omega arith in
    let at : is_white (get_or bytes end 0) ≡ false = rw one at other in
    let more : take (suc end) bytes ≡ take end bytes ++ get_or bytes end 0 ∷ [] = take-suc bytes end 0 (omega arith) in
    rw more (sym (other_pushed (take end bytes) (get_or bytes end 0) at))

pub none_before : (bytes : List ℕ) (end : ℕ) → end ≤ 0 → take end bytes ≡ without_white_end (take end bytes)
none_before bytes zero none = refl
none_before bytes (suc end) none = absurd (omega arith)

-- the first line

pub version_none : version_of_text [] ≡ codes "unknown"
unfolding version_of_text lines_of
version_none = refl

pub version_first : (text line : List ℕ) (lines : List (List ℕ)) → lines_of text ≡ line ∷ lines → version_of_text text ≡ version_of_line line
unfolding version_of_text
version_first text line lines e = rw e refl
