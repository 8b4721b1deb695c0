-- The dates that a leap text gives lie in time.
use Rattle.std.proofs.Common.{◌≡◌, ℕ, zero, suc, ◌+◌, ◌≤◌, Bool, true, false, nat_le, IsTrue, List, [], ◌∷◌, ◌++◌, length, map, ℤ, pos, neg_ℤ, ◌+ℤ◌, ◌*ℤ◌, ◌<ℤ◌, unsigned_abs, Option, Some, None, option_map, Result, Ok, Err, refl, sym, ◌∙◌, subst, arith}
use Rattle.std.specs.List.{All}
use Rattle.std.specs.Int.{IsInRange}
use Rattle.std.proofs.lemmas.Int.{ints}
use Rattle.std.proofs.lemmas.Bool.Decides.{nat_tests}
use Rattle.std.proofs.lemmas.List.Sorted.{All-permutation}
use Rattle.jiff_core.specs.Calendar.{IsBetween, days_from_civil, days_in_month}
use Rattle.jiff_core.proofs.SignedLemmas.{signed_arith}
use Rattle.tz_types.specs.declared.limit.TheConstants.{LAST_RULE_YEAR}
use Rattle.tz_types.specs.Calendar.{month_number, is_day_up_to}
use Rattle.tz_types.specs.Year.{IsRuleYear}
use Rattle.tz_types.specs.declared.calendar.Month.{Month}
use Rattle.tz_types.specs.declared.cause.Cause.{Cause}
use Rattle.tz_types.specs.declared.leap_entry.LeapEntry.{LeapEntry}
use Rattle.tz_types.specs.declared.leaps.Leaps.{Leaps}
use Rattle.tz_types.proofs.Days.{day_up_to, rule_year_days}
use Rattle.tz_specs.specs.Line.{lines_of}
use Rattle.tz_specs.specs.Field.{fields_of}
use Rattle.tz_specs.specs.Choice.{◌>>=◌, only_if}
use Rattle.tz_specs.specs.Number.{year_of}
use Rattle.tz_specs.specs.Day.{day_number_of}
use Rattle.tz_specs.specs.Value.{field_at, month_named, rule_year_of}
use Rattle.tz_specs.specs.Causes.{least_cause}
use Rattle.tz_specs.specs.Contents.{fields_or_none}
use Rattle.tz_specs.specs.Expansion.{first_instant, end_of_time}
use Rattle.tz_specs.specs.LeapLine.{LeapRecord, SecondRecord, ExpiryRecord, LeapKind, SecondLine, ExpiryLine, leap_kind_of, leap_day_of, leap_day, correction_of, entry_of, moment_of, leap_record_of, leap_record_of_fields, leap_line_causes, leap_line_says}
use Rattle.tz_specs.specs.LeapText.{WrittenLeap, LeapContents, no_leap_contents, with_leap_record, leap_contents_after, leap_contents_of, ReadsLeaps}
use Rattle.tz_specs.proofs.DayLemmas.{month_bounds}
use Rattle.tz_specs.proofs.LeapTextLemmas.{nothing_said, no_expiry, given_by, contents_step, contents_end}

bind_some : {A B : Type 0} (x : Option A) (f : A → Option B) (b : B) → (x >>= f) ≡ Some b → (a : A) × (x ≡ Some a) × (f a ≡ Some b)
bind_some None f b h = absurd (cc)
bind_some (Some a) f b h = (a, refl, h)

only_some : {A : Type 0} (test : Bool) (x y : A) → only_if test x ≡ Some y → IsTrue test × (x ≡ y)
only_some true x y h = let same : x ≡ y = cc in (refl, same)
only_some false x y h = absurd (cc)

year_within : (field : List ℕ) (year : ℤ) → rule_year_of field ≡ Some year → IsRuleYear year
year_within field year h =
    let number = bind_some (year_of field) (λ year. only_if (nat_le (unsigned_abs year) LAST_RULE_YEAR) year) year h in
    let test = only_some (nat_le (unsigned_abs number.0) LAST_RULE_YEAR) number.0 year number.2 in
    subst IsRuleYear test.1 (size_within number.0 test.0)
  where
    size_within : (value : ℤ) → IsTrue (nat_le (unsigned_abs value) LAST_RULE_YEAR) → IsRuleYear value
    size_within value h =
        let low : unsigned_abs value ≤ LAST_RULE_YEAR = grind (arith, nat_tests) in
        (omega (arith, ints), omega (arith, ints))

day_within : (year : ℤ) (month : Month) (field : List ℕ) (day : ℕ) → leap_day_of year month field ≡ Some day → IsInRange 1 (days_in_month year (month_number month)) day
day_within year month field day h =
    let number = bind_some (day_number_of field) (λ day. only_if (is_day_up_to (days_in_month year (month_number month)) day) day) day h in
    let test = only_some (is_day_up_to (days_in_month year (month_number month)) number.0) number.0 day number.2 in
    let bounds = day_up_to (days_in_month year (month_number month)) number.0 test.0 in
    subst (IsInRange 1 (days_in_month year (month_number month))) test.1 bounds

leap_day_within : (fields : List (List ℕ)) (day : ℤ) → leap_day fields ≡ Some day → IsBetween (neg_ℤ (pos 4_371_222)) (pos 2_932_531) day
unfolding leap_day
leap_day_within fields day h =
    let year = bind_some (rule_year_of (field_at 1 fields)) (λ (year : ℤ). month_named (field_at 2 fields) >>= λ month. leap_day_of year month (field_at 3 fields) >>= λ day. Some (days_from_civil year (month_number month) day)) day h in
    let month = bind_some (month_named (field_at 2 fields)) (λ month. leap_day_of year.0 month (field_at 3 fields) >>= λ day. Some (days_from_civil year.0 (month_number month) day)) day year.2 in
    let number = bind_some (leap_day_of year.0 month.0 (field_at 3 fields)) (λ day. Some (days_from_civil year.0 (month_number month.0) day)) day month.2 in
    let same : days_from_civil year.0 (month_number month.0) number.0 ≡ day = let both = number.2 in cc in
    subst (IsBetween (neg_ℤ (pos 4_371_222)) (pos 2_932_531)) same (rule_year_days year.0 (month_number month.0) number.0 (year_within (field_at 1 fields) year.0 year.1) (month_bounds month.0) (day_within year.0 month.0 (field_at 3 fields) number.0 number.1))

abbrev InTime : LeapEntry → Type 0
InTime entry = (first_instant <ℤ entry.date) × (entry.date <ℤ end_of_time)

entry_in_time : (fields : List (List ℕ)) (entry : LeapEntry) → entry_of fields ≡ Some entry → InTime entry
unfolding entry_of
entry_in_time fields entry h =
    let day = bind_some (leap_day fields) (λ (day : ℤ). correction_of (field_at 5 fields) >>= λ added. Some (record { date = pos 86_400 *ℤ (day +ℤ pos 1); added = added })) entry h in
    let added = bind_some (correction_of (field_at 5 fields)) (λ (added : Bool). Some (record { date = pos 86_400 *ℤ (day.0 +ℤ pos 1); added = added })) entry day.2 in
    let made : LeapEntry = record { date = pos 86_400 *ℤ (day.0 +ℤ pos 1); added = added.0 } in
    let same : made ≡ entry = let both = added.2 in cc in
    let within = leap_day_within fields day.0 day.1 in
    subst InTime same (omega (arith, signed_arith, within.0), omega (arith, signed_arith, within.1))

map_entry : (entry : Option LeapEntry) (told : LeapEntry) → option_map SecondRecord entry ≡ Some (SecondRecord told) → entry ≡ Some told
map_entry None told h = cc
map_entry (Some entry) told h = cc

kind_in_time : (kind : Option LeapKind) (fields : List (List ℕ)) (entry : LeapEntry) → (kind >>= λ it. leap_record_of it fields) ≡ Some (SecondRecord entry) → InTime entry
kind_in_time None fields entry e = cc
kind_in_time (Some SecondLine) fields entry e = entry_in_time fields entry (map_entry (entry_of fields) entry e)
kind_in_time (Some ExpiryLine) fields entry e = absurd (no_expiry entry (moment_of fields) e)

fields_in_time : (fields : List (List ℕ)) (entry : LeapEntry) → leap_record_of_fields fields ≡ Some (SecondRecord entry) → InTime entry
unfolding leap_record_of_fields
fields_in_time [] entry e = cc
fields_in_time (keyword ∷ fields) entry e = kind_in_time (leap_kind_of keyword) (keyword ∷ fields) entry e

line_in_time : (number earlier : ℕ) (line : List ℕ) (entry : LeapEntry) → leap_line_says number earlier line ≡ Ok (Some (SecondRecord entry)) → InTime entry
unfolding leap_line_says
line_in_time number earlier line entry h =
    fields_in_time (fields_or_none (fields_of line)) entry (nothing_said (least_cause (leap_line_causes number earlier line)) (leap_record_of_fields (fields_or_none (fields_of line))) (Some (SecondRecord entry)) h).1

abbrev entries_of : List WrittenLeap → List LeapEntry
entries_of leaps = map (λ written. written.entry) leaps

all_in_time : (leaps : List WrittenLeap) (written : WrittenLeap) → All InTime (entries_of leaps) → InTime written.entry → All InTime (entries_of (leaps ++ written ∷ []))
all_in_time [] written all here zero d within = here
all_in_time [] written all here (suc k) d within = absurd (omega (arith, within))
all_in_time (leap ∷ leaps) written all here zero d within = all zero d (omega arith)
all_in_time (leap ∷ leaps) written all here (suc k) d within =
    all_in_time leaps written (λ i e below. all (suc i) e (omega (arith, below))) here k d (omega (arith, within))

with_in_time : (contents : LeapContents) (number : ℕ) (line : List ℕ) (said : Option LeapRecord) → leap_line_says number (length contents.leaps) line ≡ Ok said → All InTime (entries_of contents.leaps) → All InTime (entries_of (with_leap_record number said contents).leaps)
with_in_time contents number line None is all = all
with_in_time contents number line (Some (SecondRecord entry)) is all =
    all_in_time contents.leaps (record { entry = entry; line = number }) all (line_in_time number (length contents.leaps) line entry is)
with_in_time contents number line (Some (ExpiryRecord moment)) is all = all

by_said : (contents found : LeapContents) (number : ℕ) (line : List ℕ) (lines : List (List ℕ)) (said : Result (Option LeapRecord) Cause) → leap_line_says number (length contents.leaps) line ≡ said → All InTime (entries_of contents.leaps) → ((next : LeapContents) → All InTime (entries_of next.leaps) → leap_contents_after next (number + 1) lines ≡ Ok found → All InTime (entries_of found.leaps)) → given_by contents number lines said ≡ Ok found → All InTime (entries_of found.leaps)
by_said contents found number line lines (Ok told) is all next h =
    next (with_leap_record number told contents) (with_in_time contents number line told is all) h
by_said contents found number line lines (Err cause) is all next h = cc

after_in_time : (contents found : LeapContents) (number : ℕ) (lines : List (List ℕ)) → All InTime (entries_of contents.leaps) → leap_contents_after contents number lines ≡ Ok found → All InTime (entries_of found.leaps)
after_in_time contents found number [] all h =
    let both : Ok contents ≡ Ok found = sym (contents_end contents number) ∙ h in
    let same : contents ≡ found = cc in
    subst (λ it. All InTime (entries_of it.leaps)) same all
after_in_time contents found number (line ∷ lines) all h =
    by_said contents found number line lines (leap_line_says number (length contents.leaps) line) refl all
    (λ next is e. after_in_time next found (number + 1) lines is e) (sym (contents_step contents number line lines) ∙ h)

text_in_time : (text : List ℕ) (contents : LeapContents) → leap_contents_of text ≡ Ok contents → All InTime (entries_of contents.leaps)
unfolding leap_contents_of
text_in_time text contents h =
    after_in_time no_leap_contents contents 1 (lines_of text) (λ k d within. absurd (omega (arith, within))) h

pub dates_in_time : (text : List ℕ) (leaps : Leaps) → ReadsLeaps text leaps → All InTime leaps.entries
dates_in_time text leaps reads =
    All-permutation InTime (entries_of reads.contents.leaps) leaps.entries reads.entries (text_in_time text reads.contents reads.given)
