-- Formats and the parts of their fields.
use Rattle.std.proofs.Common.{◌≡◌, ◌⊎◌, inl, inr, nat_le, ℕ, ◌+◌, ◌<◌, ◌≤◌, ◌==◌, Bool, true, false, not, ◌&&◌, ◌||◌, if◌then◌else◌, List, [], ◌∷◌, length, Option, Some, None, option_map, IfSome, IsTrue, refl, sym, ⊎_elim, arith}
use Rattle.std.specs.List.{list_all, list_any}
use Rattle.std.proofs.lemmas.Bool.{cases_Bool, and_parts, and_from, or_parts, not-true, not-false, le-leb}
use Rattle.std.proofs.lemmas.Bool.Decides.{nat_tests}
use Rattle.tz_types.specs.declared.limit.TheConstants.{LONGEST_FORMAT}
use Rattle.tz_types.specs.Text.{is_printable}
use Rattle.tz_types.specs.Format.{is_plain_part, is_format_length, is_format}
use Rattle.tz_types.specs.declared.format.Format.{Format}
use Rattle.tz_types.specs.declared.format.Format.TheVariants as formats
use Rattle.tz_specs.specs.Choice.{only_if}
use Rattle.tz_specs.specs.Word.{is_empty}
use Rattle.tz_specs.specs.Parts.{parts_at, onto_part}
use Rattle.tz_specs.specs.Value.{is_bad_name, plain_format_of, marked_format_of, format_of_parts, format_of}
use Rattle.tz_records.specs.FormatField.{format_told, is_visible_format}
use Rattle.tz_records.specs.declared.format_field.FormatField.{FormatField}

-- the test, of each byte of each part
abbrev pub all_pass : (ℕ → Bool) → List (List ℕ) → Bool
all_pass test parts = list_all (list_all test) parts

onto_pass : (test : ℕ → Bool) (byte : ℕ) (parts : List (List ℕ)) → test byte ≡ true → all_pass test parts ≡ true → all_pass test (onto_part byte parts) ≡ true
onto_pass test byte [] first rest = rw first refl
onto_pass test byte (part ∷ parts) first rest = rw first rest

-- the parts pass a test that the whole passes
parts_pass : (test : ℕ → Bool) (mark : ℕ) (word : List ℕ) → list_all test word ≡ true → all_pass test (parts_at mark word) ≡ true
parts_pass test mark [] passes = refl
parts_pass test mark (byte ∷ bytes) passes =
    let both = and_parts (test byte) (list_all test bytes) passes in
    let later = parts_pass test mark bytes both.1 in
    elim (byte == mark) as (λ b. all_pass test (if b then [] ∷ parts_at mark bytes else onto_part byte (parts_at mark bytes)) ≡ true)
    [ true ↦ later | false ↦ onto_pass test byte (parts_at mark bytes) both.0 later ]

abbrev pub differs : ℕ → ℕ → Bool
differs mark byte = not (byte == mark)

-- no part has the mark
parts_unmarked : (mark : ℕ) (word : List ℕ) → all_pass (differs mark) (parts_at mark word) ≡ true
parts_unmarked mark [] = refl
parts_unmarked mark (byte ∷ bytes) =
    let later = parts_unmarked mark bytes in
    ⊎_elim (λ (e : (byte == mark) ≡ true). rw e later) (λ (e : (byte == mark) ≡ false). rw e (onto_pass (differs mark) byte (parts_at mark bytes) (rw e refl) later)) (cases_Bool (byte == mark))

-- how long the parts are, with one more for each
abbrev pub span : List (List ℕ) → ℕ
span [] = 0
span (part ∷ parts) = length part + 1 + span parts

onto_span : (byte : ℕ) (parts : List (List ℕ)) → 0 < length parts → span (onto_part byte parts) ≡ span parts + 1
onto_span byte [] some = absurd (omega arith)
onto_span byte (part ∷ parts) some = omega arith

some_part : (mark : ℕ) (word : List ℕ) → 0 < length (parts_at mark word)
some_part mark [] = omega arith
some_part mark (byte ∷ bytes) =
    elim (byte == mark) as (λ b. 0 < length (if b then [] ∷ parts_at mark bytes else onto_part byte (parts_at mark bytes)))
    [ true ↦ omega arith | false ↦ on_front (parts_at mark bytes) ]
  where
    on_front : (parts : List (List ℕ)) → 0 < length (onto_part byte parts)
    on_front [] = omega arith
    on_front (part ∷ parts) = omega arith

parts_span : (mark : ℕ) (word : List ℕ) → span (parts_at mark word) ≡ length word + 1
parts_span mark [] = refl
parts_span mark (byte ∷ bytes) =
    let later = parts_span mark bytes in
    let more = onto_span byte (parts_at mark bytes) (some_part mark bytes) in
    ⊎_elim (λ (e : (byte == mark) ≡ true). rw e (omega arith)) (λ (e : (byte == mark) ≡ false). rw e (omega arith)) (cases_Bool (byte == mark))

-- a third part is one too many

third_of_pair : (standard daylight : List ℕ) (parts : List (List ℕ)) → 0 < length parts → plain_format_of (standard ∷ daylight ∷ parts) ≡ None
third_of_pair standard daylight [] some = absurd (omega arith)
third_of_pair standard daylight (part ∷ parts) some = refl

pub three_parts : (mark : ℕ) (standard daylight behind : List ℕ) → plain_format_of (standard ∷ daylight ∷ parts_at mark behind) ≡ None
three_parts mark standard daylight behind = third_of_pair standard daylight (parts_at mark behind) (some_part mark behind)

third_of_marked : (before after : List ℕ) (parts : List (List ℕ)) → 0 < length parts → format_of_parts (before ∷ after ∷ parts) ≡ None
third_of_marked before after [] some = absurd (omega arith)
third_of_marked before after (part ∷ parts) some = refl

pub two_marks : (mark : ℕ) (before after behind : List ℕ) → format_of_parts (before ∷ after ∷ parts_at mark behind) ≡ None
two_marks mark before after behind = third_of_marked before after (parts_at mark behind) (some_part mark behind)

-- what a part of a format has

abbrev pub no_percent : ℕ → Bool
no_percent byte = differs 0x25 byte

abbrev pub no_slash : ℕ → Bool
no_slash byte = differs 0x2f byte

plain_by : (bytes : List ℕ) → list_all no_percent bytes ≡ true → list_all no_slash bytes ≡ true → is_plain_part bytes ≡ true
plain_by [] percent slash = refl
plain_by (byte ∷ bytes) percent slash =
    let first = and_parts (no_percent byte) (list_all no_percent bytes) percent in
    let second = and_parts (no_slash byte) (list_all no_slash bytes) slash in
    let rest = plain_by bytes first.1 second.1 in
    let here : not ((byte == 0x25) || (byte == 0x2f)) ≡ true = grind arith in
    rw here rest

-- a text with none of the byte
none_any : (bytes : List ℕ) → list_any (λ byte. byte == 0x2f) bytes ≡ false → list_all no_slash bytes ≡ true
none_any [] none = refl
none_any (byte ∷ bytes) none =
    let both = or_parts (byte == 0x2f) (list_any (λ other. other == 0x2f) bytes) none in
    rw (both.0) (none_any bytes both.1)

some_byte : (bytes : List ℕ) → is_empty bytes ≡ false → 0 < length bytes
some_byte [] none = cc
some_byte (byte ∷ bytes) none = omega arith

length_fits : (count : ℕ) → 1 ≤ count → count ≤ LONGEST_FORMAT → is_format_length count ≡ true
length_fits count low high = grind (arith, nat_tests)

only_if_some : {A : Type 0} (holds : Bool) (x y : A) → only_if holds x ≡ Some y → (holds ≡ true) × (x ≡ y)
only_if_some true x y e = (refl, cc)
only_if_some false x y e = cc

-- The bytes of a format are visible, and one of at most 24 bytes, which with one more are the total, is well formed.
abbrev pub IsGood : ℕ → Format → Type 0
IsGood total format = (is_visible_format format ≡ true) × (total ≤ 25 → is_format format ≡ true)

pair_good : (standard daylight : List ℕ) → list_all is_printable standard ≡ true → list_all is_printable daylight ≡ true → is_plain_part standard ≡ true → is_plain_part daylight ≡ true → is_empty standard ≡ false → is_empty daylight ≡ false → IsGood (span (standard ∷ daylight ∷ [])) (formats.Pair standard daylight)
pair_good standard daylight first second plain other some more =
    let low : nat_le 1 (length standard) ≡ true = le-leb 1 (length standard) (some_byte standard some) in
    let high : nat_le 1 (length daylight) ≡ true = le-leb 1 (length daylight) (some_byte daylight more) in
    (rw (first, second) refl, λ few. rw (plain, other, low, high) (length_fits (length standard + 1 + length daylight) (omega arith) (omega arith)))

plain_good : (parts : List (List ℕ)) (format : Format) → plain_format_of parts ≡ Some format → all_pass is_printable parts ≡ true → all_pass no_percent parts ≡ true → all_pass no_slash parts ≡ true → 1 < span parts → IsGood (span parts) format
plain_good [] format e visible percent slash some = cc
plain_good (text ∷ []) format e visible percent slash some =
    let same : formats.Text text ≡ format = cc in
    let seen = and_parts (list_all is_printable text) true visible in
    let first = and_parts (list_all no_percent text) true percent in
    let second = and_parts (list_all no_slash text) true slash in
    rw (← same) (seen.0, λ few. and_from (is_plain_part text) (is_format_length (length text)) (plain_by text first.0 second.0) (length_fits (length text) (omega arith) (omega arith)))
plain_good (standard ∷ daylight ∷ []) format e visible percent slash some =
    let found = only_if_some (not (is_empty standard) && not (is_empty daylight)) (formats.Pair standard daylight) format e in
    let filled = and_parts (not (is_empty standard)) (not (is_empty daylight)) found.0 in
    let seen = and_parts (list_all is_printable standard) (list_all is_printable daylight && true) visible in
    let seen_later = and_parts (list_all is_printable daylight) true seen.1 in
    let first = and_parts (list_all no_percent standard) (list_all no_percent daylight && true) percent in
    let first_later = and_parts (list_all no_percent daylight) true first.1 in
    let second = and_parts (list_all no_slash standard) (list_all no_slash daylight && true) slash in
    let second_later = and_parts (list_all no_slash daylight) true second.1 in
    rw (← found.1) (pair_good standard daylight seen.0 seen_later.0 (plain_by standard first.0 second.0) (plain_by daylight first_later.0 second_later.0) (not-true (is_empty standard) filled.0) (not-true (is_empty daylight) filled.1))
plain_good (standard ∷ daylight ∷ other ∷ parts) format e visible percent slash some = cc

by_letter : {A : Type 0} (slash first second : Bool) (x y told : A) → (if slash then None else (if first then Some x else (if second then Some y else None))) ≡ Some told → (slash ≡ false) × ((x ≡ told) ⊎ (y ≡ told))
by_letter true first second x y told e = cc
by_letter false true second x y told e = (refl, inl (cc))
by_letter false false true x y told e = (refl, inr (cc))
by_letter false false false x y told e = cc

-- a format with a `%` has two bytes more than stand on both sides of the mark
sides_good : (total : ℕ) (before after : List ℕ) → total ≡ length before + 2 + length after + 1 → list_all is_printable before ≡ true → list_all is_printable after ≡ true → is_plain_part before ≡ true → is_plain_part after ≡ true → IsGood total (formats.Letters before after)
sides_good total before after is first second plain other =
    (rw (first, second) refl, λ few. rw (plain, other) (length_fits (length before + 2 + length after) (omega arith) (omega arith)))

marked_good : (before behind : List ℕ) (format : Format) → marked_format_of before behind ≡ Some format → all_pass is_printable (before ∷ behind ∷ []) ≡ true → all_pass no_percent (before ∷ behind ∷ []) ≡ true → IsGood (span (before ∷ behind ∷ [])) format
marked_good before [] format e visible percent = cc
marked_good before (letter ∷ after) format e visible percent =
    let found = by_letter (list_any (λ byte. byte == 0x2f) before || list_any (λ byte. byte == 0x2f) after) (letter == 0x73) (letter == 0x7a) (formats.Letters before after) (formats.Offset before after) format e in
    let slashes = or_parts (list_any (λ byte. byte == 0x2f) before) (list_any (λ byte. byte == 0x2f) after) found.0 in
    let seen = and_parts (list_all is_printable before) (list_all is_printable (letter ∷ after) && true) visible in
    let seen_behind = and_parts (list_all is_printable (letter ∷ after)) true seen.1 in
    let seen_after = and_parts (is_printable letter) (list_all is_printable after) seen_behind.0 in
    let first = and_parts (list_all no_percent before) (list_all no_percent (letter ∷ after) && true) percent in
    let first_behind = and_parts (list_all no_percent (letter ∷ after)) true first.1 in
    let first_after = and_parts (no_percent letter) (list_all no_percent after) first_behind.0 in
    let good = sides_good (span (before ∷ (letter ∷ after) ∷ [])) before after (omega arith) seen.0 seen_after.1 (plain_by before first.0 (none_any before slashes.0)) (plain_by after first_after.1 (none_any after slashes.1)) in
    ⊎_elim (λ (same : formats.Letters before after ≡ format). rw (← same) good) (λ (same : formats.Offset before after ≡ format). rw (← same) good) found.1

parts_good : (parts : List (List ℕ)) (format : Format) → format_of_parts parts ≡ Some format → all_pass is_printable parts ≡ true → all_pass no_percent parts ≡ true → 1 < span parts → IsGood (span parts) format
parts_good [] format e visible percent some = cc
parts_good (text ∷ []) format e visible percent some =
    let seen = and_parts (list_all is_printable text) true visible in
    let first = and_parts (list_all no_percent text) true percent in
    let long = parts_span 0x2f text in
    let same : span (parts_at 0x2f text) ≡ length text + 1 + 0 = omega arith in
    rw (← same) (plain_good (parts_at 0x2f text) format e (parts_pass is_printable 0x2f text seen.0) (parts_pass no_percent 0x2f text first.0) (parts_unmarked 0x2f text) (omega arith))
parts_good (before ∷ behind ∷ []) format e visible percent some = marked_good before behind format e visible percent
parts_good (before ∷ behind ∷ other ∷ parts) format e visible percent some = cc

format_good : (field : List ℕ) (format : Format) → format_of field ≡ Some format → IsGood (length field + 1) format
unfolding format_of
format_good field format e =
    ⊎_elim (λ (bad : is_bad_name field ≡ true). bad_field bad) (λ (good : is_bad_name field ≡ false). good_field good) (cases_Bool (is_bad_name field))
  where
    bad_field : is_bad_name field ≡ true → IsGood (length field + 1) format
    bad_field bad = absurd (none_some (rw bad at e))
      where
        none_some : None ≡ Some format → ⊥
        none_some h = cc

    good_field : is_bad_name field ≡ false → IsGood (length field + 1) format
    good_field good =
        let named = or_parts (is_empty field) (not (list_all is_printable field)) good in
        let visible : list_all is_printable field ≡ true = not-false (list_all is_printable field) named.1 in
        let some = some_byte field named.0 in
        let long = parts_span 0x25 field in
        rw (← long) (parts_good (parts_at 0x25 field) format (rw good at e) (parts_pass is_printable 0x25 field visible) (parts_unmarked 0x25 field) (omega arith))

pub visible_format : (field : List ℕ) (told : Option FormatField) → option_map format_told told ≡ format_of field → IfSome told (λ format. IsTrue (is_visible_format (format_told format)))
visible_format field None e = tt
visible_format field (Some told) e = (format_good field (format_told told) (sym e)).0

pub short_format : (field : List ℕ) (told : Option FormatField) → option_map format_told told ≡ format_of field → length field ≤ LONGEST_FORMAT → IfSome told (λ format. IsTrue (is_format (format_told format)))
short_format field None e few = tt
short_format field (Some told) e few = (format_good field (format_told told) (sym e)).1 (omega arith)
