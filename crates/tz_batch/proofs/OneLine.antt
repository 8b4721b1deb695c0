-- Answers are printed in one line.
use Rattle.std.proofs.Common.{◌≡◌, ◌≢◌, ℕ, zero, suc, ◌<◌, ◌≤◌, ◌==◌, ◌^◌, Bool, true, false, not, ◌&&◌, List, [], ◌∷◌, ◌++◌, refl, ◌∙◌, arith}
use Rattle.std.specs.Prelude.{ℤ, pos, negsuc, codes, IsTrue, if◌then◌else◌}
use Rattle.std.specs.List.{All, flat_map}
use Rattle.std.specs.Fmt.{decimal, signed_decimal}
use Rattle.std.specs.Str.Parse.{AllDigits}
use Rattle.std.proofs.lemmas.Fmt.{decimal_is_IsNumeral}
use Rattle.std.proofs.lemmas.Int.{ints}
use Rattle.std.proofs.lemmas.Str.Parse.{digit_from_value}
use Rattle.std.proofs.lemmas.List.Folds.{list_all-append}
use Rattle.std.proofs.lemmas.List.Elements.{All-head, All-tail}
use Rattle.tz_types.specs.declared.leap_info.LeapInfo.{LeapInfo}
use Rattle.tz_types.specs.declared.range.SysInfo.{SysInfo}
use Rattle.tz_types.specs.declared.range.LocalInfo.{LocalInfo}
use Rattle.tz_types.specs.declared.range.LocalInfo.TheVariants.{Unique, Nonexistent, Ambiguous}
use Rattle.tz_lookup.specs.Range.{shown, spaced, range_text}
use Rattle.tz_lookup.specs.LocalInfo.{local_text}
use Rattle.tz_lookup.specs.LeapInfo.{leap_text}
use Rattle.tz_windows.specs.declared.scan.Scan.{Scan}
use Rattle.pin_book.specs.declared.listed.Listed.{Listed}
use Rattle.tz_lookup.specs.Found.{after_space, scan_text}
use Rattle.tz_batch.specs.OutcomeText.{after_slash, finding_text, version_text, of_several, refusal_text, row_text, answer_text}
use Rattle.tz_batch.specs.Fitting.{FitsWord, FitsCount, is_one_line, FitsRange, FitsLocal, FitsScan, FitsFound, FitsRow, FitsAnswer}
use Rattle.tz_batch.specs.declared.answer.Answer.{Answer}
use Rattle.tz_batch.specs.declared.answer.Answer.TheVariants as answers
use Rattle.tz_lookup.specs.declared.found.Found.{Found}
use Rattle.tz_lookup.specs.declared.found.Found.TheVariants as found

both_true : (a b : Bool) → a ≡ true → b ≡ true → (a && b) ≡ true
both_true a b one two = rw (one, two) refl

pub first_true : (a b : Bool) → (a && b) ≡ true → a ≡ true
first_true true b e = refl
first_true false b e = e

pub second_true : (a b : Bool) → (a && b) ≡ true → b ≡ true
second_true a b e = grind arith

other_than_newline : (g : ℕ) → not (g == 10) ≡ true → g ≢ 10
other_than_newline g h e = grind arith

pub first_differs : (g : ℕ) (s : List ℕ) → IsTrue (is_one_line (g ∷ s)) → g ≢ 10
first_differs g s h = other_than_newline g (first_true (not (g == 10)) (is_one_line s) h)

pub later_too : (g : ℕ) (s : List ℕ) → IsTrue (is_one_line (g ∷ s)) → IsTrue (is_one_line s)
later_too g s h = second_true (not (g == 10)) (is_one_line s) h

-- two texts of one line make one line
joined : (s t : List ℕ) → IsTrue (is_one_line s) → IsTrue (is_one_line t) → IsTrue (is_one_line (s ++ t))
joined s t one two =
    list_all-append (λ byte. not (byte == 10)) s t ∙ both_true (is_one_line s) (is_one_line t) one two

no_digit_ends_lines : (g : ℕ) → 48 ≤ g → not (g == 10) ≡ true
no_digit_ends_lines g h = grind arith

digits_one : (ds : List ℕ) → AllDigits 10 ds → IsTrue (is_one_line ds)
digits_one [] h = refl
digits_one (d ∷ ds) h =
    both_true (not (d == 10)) (is_one_line ds) (no_digit_ends_lines d (omega (arith, digit_from_value d h.0))) (digits_one ds h.1)

natural_one : (n : ℕ) → n < 2 ^ 64 → IsTrue (is_one_line (decimal n))
natural_one n h = digits_one (decimal n) (decimal_is_IsNumeral n h).0.1

word_one : (n : ℕ) → FitsWord n → IsTrue (is_one_line (decimal n))
word_one n h = natural_one n (omega arith)

signed_one : (z : ℤ) → FitsCount z → IsTrue (is_one_line (signed_decimal z))
signed_one (pos n) h = natural_one n (omega (arith, ints, h.1))
signed_one (negsuc n) h = joined (45 ∷ []) (decimal (suc n)) refl (natural_one (suc n) (omega (arith, ints, h.0)))

after_space_one : (n : ℕ) → FitsWord n → IsTrue (is_one_line (after_space n))
after_space_one n h = joined (codes " ") (decimal n) refl (word_one n h)

after_slash_one : (n : ℕ) → FitsWord n → IsTrue (is_one_line (after_slash n))
after_slash_one n h = joined (codes "/") (decimal n) refl (word_one n h)

spaced_one : (z : ℤ) → FitsCount z → IsTrue (is_one_line (spaced z))
spaced_one z h = joined (signed_decimal z) (codes " ") (signed_one z h) refl

shown_one : (name : List ℕ) → IsTrue (is_one_line name) → IsTrue (is_one_line (shown name))
shown_one [] h = refl
shown_one (byte ∷ bytes) h = h

range_one : (range : SysInfo) → FitsRange range → IsTrue (is_one_line (range_text range))
unfolding range_text
range_one range h =
    joined (spaced range.begin ++ spaced range.end ++ spaced range.offset ++ spaced range.save) (shown range.abbrev)
    (joined (spaced range.begin ++ spaced range.end ++ spaced range.offset) (spaced range.save)
    (joined (spaced range.begin ++ spaced range.end) (spaced range.offset)
    (joined (spaced range.begin) (spaced range.end) (spaced_one range.begin h.begin) (spaced_one range.end h.end))
    (spaced_one range.offset h.offset))
    (spaced_one range.save h.save))
    (shown_one range.abbrev h.name)

two_one : (word : List ℕ) (first second : SysInfo) → IsTrue (is_one_line word) → FitsRange first → FitsRange second
    → IsTrue (is_one_line (word ++ range_text first ++ codes " " ++ range_text second))
two_one word first second h one two =
    joined (word ++ range_text first ++ codes " ") (range_text second)
    (joined (word ++ range_text first) (codes " ") (joined word (range_text first) h (range_one first one)) refl)
    (range_one second two)

local_one : (info : LocalInfo) → FitsLocal info → IsTrue (is_one_line (local_text info))
local_one (Unique range) h = joined (codes "unique ") (range_text range) refl (range_one range h)
local_one (Nonexistent first second) h = two_one (codes "nonexistent ") first second refl h.0 h.1
local_one (Ambiguous first second) h = two_one (codes "ambiguous ") first second refl h.0 h.1

leap_word_one : (is_leap : Bool) → IsTrue (is_one_line (if is_leap then codes "leap " else codes "plain "))
leap_word_one true = refl
leap_word_one false = refl

expired_word_one : (expired : Bool) → IsTrue (is_one_line (if expired then codes " expired" else []))
expired_word_one true = refl
expired_word_one false = refl

leap_one : (info : LeapInfo) → FitsCount info.elapsed → IsTrue (is_one_line (leap_text info))
unfolding leap_text
leap_one info h =
    joined ((if info.is_leap then codes "leap " else codes "plain ") ++ signed_decimal info.elapsed) (if info.expired then codes " expired" else [])
    (joined (if info.is_leap then codes "leap " else codes "plain ") (signed_decimal info.elapsed) (leap_word_one info.is_leap) (signed_one info.elapsed h))
    (expired_word_one info.expired)

scan_one : (scan : Scan) → FitsScan scan → IsTrue (is_one_line (scan_text scan))
unfolding scan_text
scan_one scan h =
    joined (codes "scan" ++ after_space scan.inside ++ (codes " " ++ signed_decimal scan.offsets)) (after_space scan.changes)
    (joined (codes "scan" ++ after_space scan.inside) (codes " " ++ signed_decimal scan.offsets)
    (joined (codes "scan") (after_space scan.inside) refl (after_space_one scan.inside h.inside))
    (joined (codes " ") (signed_decimal scan.offsets) refl (signed_one scan.offsets h.offsets)))
    (after_space_one scan.changes h.changes)

found_one : (what : Found) → FitsFound what → IsTrue (is_one_line (finding_text what))
found_one (found.Info range) h = joined (codes "info ") (range_text range) refl (range_one range h)
found_one (found.Local info) h = local_one info h
found_one (found.Sys t) h = joined (codes "sys ") (signed_decimal t) refl (signed_one t h)
found_one (found.Undecided info) h = local_one info h
found_one (found.Scan scan) h = scan_one scan h
found_one (found.Clock count) h = joined (codes "clock ") (signed_decimal count) refl (signed_one count h)
found_one (found.Leap info) h = joined (codes "clock ") (leap_text info) refl (leap_one info h)
found_one found.NoZone h = refl
found_one found.Range h = refl

version_one : (n slot : ℕ) → FitsWord n → FitsWord slot → IsTrue (is_one_line (version_text n slot))
version_one n slot one two = joined (decimal n) (after_space slot) (word_one n one) (after_space_one slot two)

behind_version_one : (n slot : ℕ) (word : List ℕ) → FitsWord n → FitsWord slot → IsTrue (is_one_line word)
    → IsTrue (is_one_line (version_text n slot ++ word))
behind_version_one n slot word one two h = joined (version_text n slot) word (version_one n slot one two) h

of_several_one : (file : ℕ) → FitsWord file → IsTrue (is_one_line (of_several file))
of_several_one zero h = refl
of_several_one (suc file) h = joined (codes " in") (after_space (suc file)) refl (after_space_one (suc file) h)

refusal_one : (file line cause : ℕ) → FitsWord file → FitsWord line → FitsWord cause
    → IsTrue (is_one_line (refusal_text file line cause))
unfolding refusal_text
refusal_one file line cause one two three =
    joined (codes "refused" ++ after_space line ++ after_space cause) (of_several file)
    (joined (codes "refused" ++ after_space line) (after_space cause)
    (joined (codes "refused") (after_space line) refl (after_space_one line two))
    (after_space_one cause three))
    (of_several_one file one)

row_one : (row : Listed) → FitsRow row → IsTrue (is_one_line (row_text row))
unfolding row_text
row_one row h =
    joined (after_space row.n ++ after_slash row.src) (after_slash row.slot)
    (joined (after_space row.n) (after_slash row.src) (after_space_one row.n h.n) (after_slash_one row.src h.src))
    (after_slash_one row.slot h.slot)

rows_one : (rows : List Listed) → All FitsRow rows → IsTrue (is_one_line (flat_map row_text rows))
rows_one [] h = refl
rows_one (row ∷ rows) h =
    joined (row_text row) (flat_map row_text rows) (row_one row (All-head FitsRow row rows h)) (rows_one rows (All-tail FitsRow row rows h))

-- an answer is printed in one line
pub answer_one : (answer : Answer) → FitsAnswer answer → IsTrue (is_one_line (answer_text answer))
answer_one (answers.Front n slot) h = joined (codes "front ") (version_text n slot) refl (version_one n slot h.0 h.1)
answer_one (answers.Held n slot) h = joined (codes "held ") (version_text n slot) refl (version_one n slot h.0 h.1)
answer_one (answers.Dropped n slot) h = joined (codes "dropped ") (version_text n slot) refl (version_one n slot h.0 h.1)
answer_one (answers.Pushed n slot) h = joined (codes "pushed ") (version_text n slot) refl (version_one n slot h.0 h.1)
answer_one (answers.Same n) h = joined (codes "same") (after_space n) refl (after_space_one n h)
answer_one answers.Full h = refl
answer_one (answers.Refused file line cause) h = refusal_one file line cause h.0 h.1 h.2
answer_one (answers.Erased n slot gone) h =
    joined (version_text n slot ++ codes " erased") (after_space gone) (behind_version_one n slot (codes " erased") h.0 h.1 refl) (after_space_one gone h.2)
answer_one (answers.Nothing n slot) h = behind_version_one n slot (codes " nothing") h.0 h.1 refl
answer_one (answers.NotListed n slot) h = behind_version_one n slot (codes " notlisted") h.0 h.1 refl
answer_one (answers.Listed listing) h = joined (codes "list") (flat_map row_text listing.rows) refl (rows_one listing.rows h)
answer_one (answers.On n slot what) h =
    joined (version_text n slot ++ codes " ") (finding_text what) (behind_version_one n slot (codes " ") h.0 h.1 refl) (found_one what h.2)
