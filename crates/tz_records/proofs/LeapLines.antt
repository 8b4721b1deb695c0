-- What a line of a leap text says, by its fields.
use Rattle.std.proofs.Common.{◌≡◌, ℕ, ◌<◌, ◌≤◌, Bool, true, false, not, nat_lt, nat_le, if◌then◌else◌, List, [], ◌∷◌, ◌++◌, ℤ, pos, ◌+ℤ◌, ◌*ℤ◌, Option, Some, None, option_map, Result, Ok, Err, IfOk, IfErr, refl, ap, ◌∙◌, arith}
use Rattle.std.specs.Option.{is_none}
use Rattle.std.proofs.lemmas.Bool.{eqb-true}
use Rattle.tz_types.specs.declared.limit.TheConstants.{MOST_LEAPS, MOST_TEXT_LINES}
use Rattle.tz_types.specs.declared.cause.Cause.{Cause}
use Rattle.tz_types.specs.declared.cause.Cause.TheVariants as causes
use Rattle.tz_text.specs.declared.kept.TheConstants.{MOST_KEPT}
use Rattle.tz_text.specs.Kept.{Kept, kept_of}
use Rattle.tz_specs.specs.Field.{fields_of}
use Rattle.tz_specs.specs.Causes.{least_cause, unless_cause}
use Rattle.tz_specs.specs.LineCauses.{opening_causes, number_causes}
use Rattle.tz_specs.specs.Value.{field_at}
use Rattle.tz_specs.specs.LeapLine.{LeapKind, SecondLine, ExpiryLine, leap_kind_of, has_leap_count, leap_day, correction_of, is_leap_time, is_stationary, day_causes, entry_of, entry_causes, second_of_day, moment_of, expiry_causes, leap_record_of, leap_record_causes, leap_kind_causes, leap_field_causes, leap_record_of_fields, leap_line_says}
use Rattle.tz_specs.specs.LeapLine as specs
use Rattle.tz_records.specs.declared.leap_record.LeapRecord.{LeapRecord}
use Rattle.tz_records.specs.Tells.{Tells, unless_late}
use Rattle.tz_records.specs.LeapRecord.{record_meant, leap_fields_say, Means}
use Rattle.tz_records.proofs.KeptFields.{count_kept, none_kept, first_field, all_kept}
use Rattle.tz_records.proofs.LeastCauses.{least_before, least_after, same_tells}
use Rattle.tz_records.proofs.LineCauses as lines

-- ---- records by their kind

-- the causes of a record whose day is wrong
pub day_of_entry : (earlier : ℕ) (fields : List (List ℕ)) (cause : Cause) → least_cause (day_causes fields) ≡ Some cause → least_cause (entry_causes earlier fields) ≡ Some cause
unfolding entry_causes
day_of_entry earlier fields cause h =
    least_before (day_causes fields) ((causes.Time, not (is_leap_time (correction_of (field_at 5 fields)) (field_at 4 fields))) ∷ (causes.Corr, is_none (correction_of (field_at 5 fields))) ∷ (causes.Rolling, not (is_stationary (field_at 6 fields))) ∷ (causes.Limit, nat_le MOST_LEAPS earlier) ∷ []) cause h

pub day_of_expiry : (fields : List (List ℕ)) (cause : Cause) → least_cause (day_causes fields) ≡ Some cause → least_cause (expiry_causes fields) ≡ Some cause
unfolding expiry_causes
day_of_expiry fields cause h =
    least_before (day_causes fields) ((causes.Time, is_none (second_of_day (field_at 4 fields))) ∷ []) cause h

-- the tests behind the day
pub entry_tests : (earlier : ℕ) (fields : List (List ℕ)) (time stationary : Bool) (correction : Option Bool) → least_cause (day_causes fields) ≡ None → correction ≡ correction_of (field_at 5 fields) → time ≡ is_leap_time correction (field_at 4 fields) → stationary ≡ is_stationary (field_at 6 fields) → least_cause (entry_causes earlier fields) ≡ (if not time then Some causes.Time else (if is_none correction then Some causes.Corr else (if not stationary then Some causes.Rolling else (if nat_le MOST_LEAPS earlier then Some causes.Limit else None))))
unfolding entry_causes
entry_tests earlier fields time stationary correction none corr timed still =
    rw (corr, timed, corr, still) (least_after (day_causes fields) ((causes.Time, not (is_leap_time (correction_of (field_at 5 fields)) (field_at 4 fields))) ∷ (causes.Corr, is_none (correction_of (field_at 5 fields))) ∷ (causes.Rolling, not (is_stationary (field_at 6 fields))) ∷ (causes.Limit, nat_le MOST_LEAPS earlier) ∷ []) none)

pub expiry_tests : (fields : List (List ℕ)) (second : Option ℕ) → least_cause (day_causes fields) ≡ None → second ≡ second_of_day (field_at 4 fields) → least_cause (expiry_causes fields) ≡ (if is_none second then Some causes.Time else None)
unfolding expiry_causes
expiry_tests fields second none is =
    rw is (least_after (day_causes fields) ((causes.Time, is_none (second_of_day (field_at 4 fields))) ∷ []) none)

pub entry_said : (fields : List (List ℕ)) (day : ℤ) (added : Bool) → leap_day fields ≡ Some day → correction_of (field_at 5 fields) ≡ Some added → entry_of fields ≡ Some (record { date = pos 86_400 *ℤ (day +ℤ pos 1); added = added })
unfolding entry_of
entry_said fields day added e f = rw (e, f) refl

pub moment_said : (fields : List (List ℕ)) (day : ℤ) (second : ℕ) → leap_day fields ≡ Some day → second_of_day (field_at 4 fields) ≡ Some second → moment_of fields ≡ Some (pos 86_400 *ℤ day +ℤ pos second)
unfolding moment_of
moment_said fields day second e f = rw (e, f) refl

-- ---- the kind of a record

few_counted : (kind : LeapKind) (count : ℕ) → has_leap_count kind count ≡ true → count ≤ MOST_KEPT
few_counted SecondLine count h = let is = eqb-true count 7 h in omega arith
few_counted ExpiryLine count h = let is = eqb-true count 5 h in omega arith

kind_kept : (all : List (List ℕ)) (kept : Kept) (kind : Option LeapKind) → kept_of all ≡ kept → leap_kind_of (field_at 0 kept.first) ≡ kind → leap_kind_of (field_at 0 all) ≡ kind
kind_kept all kept kind e is = ap leap_kind_of (first_field all kept e) ∙ is

-- a first field that names no keyword
pub no_kind : (earlier : ℕ) (all : List (List ℕ)) (kept : Kept) → kept_of all ≡ kept → 0 < kept.count → leap_kind_of (field_at 0 kept.first) ≡ None → least_cause (leap_field_causes earlier all) ≡ Some causes.Keyword
unfolding leap_field_causes
no_kind earlier [] kept e some none = none_kept kept e some
no_kind earlier (keyword ∷ fields) kept e some none = rw (kind_kept (keyword ∷ fields) kept None e none) refl

-- fewer or more fields than the record has
pub other_count : (earlier : ℕ) (all : List (List ℕ)) (kept : Kept) (kind : LeapKind) → kept_of all ≡ kept → 0 < kept.count → leap_kind_of (field_at 0 kept.first) ≡ Some kind → has_leap_count kind kept.count ≡ false → least_cause (leap_field_causes earlier all) ≡ Some causes.FieldCount
unfolding leap_field_causes
other_count earlier [] kept kind e some is other = none_kept kept e some
other_count earlier (keyword ∷ fields) kept kind e some is other =
    rw (kind_kept (keyword ∷ fields) kept (Some kind) e is, count_kept (keyword ∷ fields) kept e, other) refl

-- a record that has its fields
pub counted_fields : (earlier : ℕ) (all : List (List ℕ)) (kept : Kept) (kind : LeapKind) (told : Result LeapRecord Cause) → kept_of all ≡ kept → 0 < kept.count → leap_kind_of (field_at 0 kept.first) ≡ Some kind → has_leap_count kind kept.count ≡ true → Tells record_meant (leap_record_causes earlier kind kept.first) (leap_record_of kind kept.first) told → Tells record_meant (leap_field_causes earlier all) (leap_record_of_fields all) told
unfolding leap_field_causes leap_record_of_fields
counted_fields earlier [] kept kind told e some is counted tells = none_kept kept e some
counted_fields earlier (keyword ∷ fields) kept kind told e some is counted tells =
    let count = count_kept (keyword ∷ fields) kept e in
    let here = kind_kept (keyword ∷ fields) kept (Some kind) e is in
    let whole : kept.first ≡ keyword ∷ fields = all_kept (keyword ∷ fields) kept e (few_counted kind kept.count counted) in
    same_tells record_meant (leap_record_causes earlier kind (keyword ∷ fields)) (leap_field_causes earlier (keyword ∷ fields)) (leap_record_of kind (keyword ∷ fields)) (leap_record_of_fields (keyword ∷ fields)) told (rw (here, count, counted) refl) (rw here refl) (rw whole at tells)

-- ---- the fields of a line

late_means : (late : Bool) (told : Option LeapRecord) → Means (unless_late late told) (unless_cause (least_cause ((causes.Limit, late) ∷ [])) (option_map record_meant told))
late_means true told = refl
late_means false told = refl

pub blank_fields : (number earlier : ℕ) → Means (unless_late (nat_lt MOST_TEXT_LINES number) None) (leap_fields_say number earlier [])
unfolding leap_field_causes leap_record_of_fields
blank_fields number earlier = late_means (nat_lt MOST_TEXT_LINES number) None

pub told_fields : (number earlier : ℕ) (all : List (List ℕ)) (told : LeapRecord) → Tells record_meant (leap_field_causes earlier all) (leap_record_of_fields all) (Ok told) → Means (unless_late (nat_lt MOST_TEXT_LINES number) (Some told)) (leap_fields_say number earlier all)
told_fields number earlier all told tells =
    rw (least_after (leap_field_causes earlier all) (number_causes number) tells.0, tells.1) (late_means (nat_lt MOST_TEXT_LINES number) (Some told))

pub refused_fields : (number earlier : ℕ) (all : List (List ℕ)) (cause : Cause) → least_cause (leap_field_causes earlier all) ≡ Some cause → leap_fields_say number earlier all ≡ Err cause
refused_fields number earlier all cause h =
    rw (least_before (leap_field_causes earlier all) (number_causes number) cause h) refl

-- ---- the line

-- the causes of the fields of a line, with that of its place
abbrev rows_at : ℕ → ℕ → List (List ℕ) → List (Cause × Bool)
rows_at number earlier fields = leap_field_causes earlier fields ++ number_causes number

pub refused_line : (number earlier : ℕ) (line : List ℕ) (cause : Cause) → least_cause (opening_causes line) ≡ Some cause → leap_line_says number earlier line ≡ Err cause
unfolding leap_line_says
refused_line number earlier line cause h =
    lines.refused_line (rows_at number earlier) leap_record_of_fields line cause h

pub whole_line : (number earlier : ℕ) (line : List ℕ) (kept : Kept) (told : Result (Option LeapRecord) Cause) → least_cause (opening_causes line) ≡ None → option_map kept_of (fields_of line) ≡ Some kept → ((all : List (List ℕ)) → kept_of all ≡ kept → Means told (leap_fields_say number earlier all)) → Means told (leap_line_says number earlier line)
unfolding leap_line_says
whole_line number earlier line kept told none e says =
    lines.whole_line (rows_at number earlier) leap_record_of_fields (Means told) line kept none e says

-- the two sides of what is meant
pub means_ok : (told : Result (Option LeapRecord) Cause) (outcome : Result (Option specs.LeapRecord) Cause) → Means told outcome → IfOk told (λ said. outcome ≡ Ok (option_map record_meant said))
means_ok (Ok said) outcome means = means
means_ok (Err cause) outcome means = tt

pub means_err : (told : Result (Option LeapRecord) Cause) (outcome : Result (Option specs.LeapRecord) Cause) → Means told outcome → IfErr told (λ cause. outcome ≡ Err cause)
means_err (Ok said) outcome means = tt
means_err (Err cause) outcome means = means
