-- What a line of a zone text says by itself, by its fields.
use Rattle.std.proofs.Common.{◌≡◌, ℕ, ◌<◌, ◌≤◌, Bool, true, false, nat_le, ◌||◌, ◌&&◌, List, [], ◌∷◌, ◌++◌, drop, take, Option, Some, None, option_map, Result, Ok, Err, IfOk, IfErr, refl, sym, ap, ◌∙◌, arith}
use Rattle.std.proofs.lemmas.Bool.{and_parts, leb-true, eqb-true}
use Rattle.std.proofs.lemmas.Option.{same_Some}
use Rattle.tz_types.specs.declared.cause.Cause.{Cause}
use Rattle.tz_types.specs.declared.cause.Cause.TheVariants as causes
use Rattle.tz_text.specs.declared.kept.TheConstants.{MOST_KEPT}
use Rattle.tz_text.specs.Kept.{Kept, kept_of}
use Rattle.tz_specs.specs.Field.{fields_of}
use Rattle.tz_specs.specs.Causes.{least_cause}
use Rattle.tz_specs.specs.LineCauses.{opening_causes, number_causes}
use Rattle.tz_specs.specs.Value.{field_at, names_set, is_bad_name, is_long_name}
use Rattle.tz_specs.specs.Written.{WrittenRule, WrittenLine, Record, RuleRecord, ZoneRecord, Continuation}
use Rattle.tz_specs.specs.Record.{Kind, RuleLine, ZoneLine, LinkLine, ContinuationLine, kind_of_record, has_count, rule_of, rule_causes, line_of, line_causes, link_causes, record_of}
use Rattle.tz_specs.specs.Contents.{Contents, waits, exceeds_rules, exceeds_zones, exceeds_lines, exceeds_links, record_causes, field_causes, record_of_fields}
use Rattle.tz_records.specs.declared.entry.Entry.{Entry}
use Rattle.tz_records.specs.Entry.{written_entry}
use Rattle.tz_records.specs.Counts.{exceeds, exceeds_said, count_causes}
use Rattle.tz_records.specs.LineAlone.{SaysAlone, RefusesAlone}
use Rattle.tz_records.specs.Tells.{Tells, TellsUncounted}
use Rattle.tz_records.proofs.KeptFields.{count_kept, none_kept, all_kept}
use Rattle.tz_records.proofs.LeastCauses.{least_before, least_same, counted_none, counted_some}
use Rattle.tz_records.proofs.LineCauses.{early_cause, whole_cause}

-- ---- records by their kind, and whether they are one too many

pub rule_exceeds : (before : Contents) (name : List ℕ) (rule : Option WrittenRule) (said : Record) → option_map (RuleRecord name) rule ≡ Some said → exceeds before said ≡ exceeds_rules name before
rule_exceeds before name None said e = cc
rule_exceeds before name (Some rule) said e = ap (exceeds before) (sym (same_Some (RuleRecord name rule) said e))

pub zone_exceeds : (before : Contents) (name : List ℕ) (line : Option WrittenLine) (said : Record) → option_map (ZoneRecord name) line ≡ Some said → exceeds before said ≡ exceeds_zones before
zone_exceeds before name None said e = cc
zone_exceeds before name (Some line) said e = ap (exceeds before) (sym (same_Some (ZoneRecord name line) said e))

pub line_exceeds : (before : Contents) (line : Option WrittenLine) (said : Record) → option_map Continuation line ≡ Some said → exceeds before said ≡ exceeds_lines before
line_exceeds before None said e = cc
line_exceeds before (Some line) said e = ap (exceeds before) (sym (same_Some (Continuation line) said e))

-- the causes of a rule but the last, and so on
rule_rows : (late : Bool) (fields : List (List ℕ)) → rule_causes late fields ≡ take 10 (rule_causes false fields) ++ (causes.Limit, is_long_name (field_at 1 fields) || late) ∷ []
unfolding rule_causes
rule_rows late fields = refl

line_rows : (badly_named long_named late : Bool) (fields : List (List ℕ)) → line_causes badly_named late fields ≡ take 8 (line_causes badly_named long_named fields) ++ (causes.Limit, late || (names_set (field_at 1 fields) && is_long_name (field_at 1 fields))) ∷ []
unfolding line_causes
line_rows badly_named long_named late fields = refl

by_two : (a b : Bool) → ((a || false) || b) ≡ (a || b)
by_two true b = refl
by_two false b = refl

by_three : (a b c : Bool) → ((a || b) || c) ≡ ((a || c) || b)
by_three true b c = refl
by_three false true true = refl
by_three false true false = refl
by_three false false true = refl
by_three false false false = refl

by_links : (a b c : Bool) → ((a || b || false) || c) ≡ (a || b || c)
by_links true b c = refl
by_links false true c = refl
by_links false false c = refl

pub rule_counted : (before : Contents) (number : ℕ) (fields : List (List ℕ)) (told : Result Entry Cause) → Tells written_entry (rule_causes false fields) (record_of RuleLine number fields) told → TellsUncounted written_entry (exceeds before) (record_causes before RuleLine fields) (record_of RuleLine number fields) told
rule_counted before number fields (Ok entry) tells =
    let late = exceeds_rules (field_at 1 fields) before in
    let long = is_long_name (field_at 1 fields) in
    let none : least_cause (take 10 (rule_causes false fields) ++ (causes.Limit, long || false) ∷ []) ≡ None = rw (← rule_rows false fields) tells.0 in
    let is = rule_exceeds before (field_at 1 fields) (rule_of number fields) (written_entry entry) tells.1 in
    (ap least_cause (rule_rows late fields) ∙ rw is (counted_none (take 10 (rule_causes false fields)) (long || false) late (long || late) (by_two long late) none), tells.1)
rule_counted before number fields (Err cause) tells =
    let late = exceeds_rules (field_at 1 fields) before in
    let long = is_long_name (field_at 1 fields) in
    let some : least_cause (take 10 (rule_causes false fields) ++ (causes.Limit, long || false) ∷ []) ≡ Some cause = rw (← rule_rows false fields) tells in
    ap least_cause (rule_rows late fields) ∙ counted_some (take 10 (rule_causes false fields)) (long || false) late (long || late) cause (by_two long late) some

-- a line of a zone, whose own name may be bad or too long
line_none : (badly_named long_named late : Bool) (fields : List (List ℕ)) → least_cause (line_causes badly_named long_named fields) ≡ None → least_cause (line_causes badly_named (long_named || late) fields) ≡ least_cause ((causes.Limit, late) ∷ [])
line_none badly_named long_named late fields h =
    let set_long = names_set (field_at 1 fields) && is_long_name (field_at 1 fields) in
    let rows = take 8 (line_causes badly_named long_named fields) in
    let none : least_cause (rows ++ (causes.Limit, long_named || set_long) ∷ []) ≡ None = sym (ap least_cause (line_rows badly_named long_named long_named fields)) ∙ h in
    ap least_cause (line_rows badly_named long_named (long_named || late) fields) ∙ counted_none rows (long_named || set_long) late ((long_named || late) || set_long) (by_three long_named set_long late) none

line_some : (badly_named long_named late : Bool) (fields : List (List ℕ)) (cause : Cause) → least_cause (line_causes badly_named long_named fields) ≡ Some cause → least_cause (line_causes badly_named (long_named || late) fields) ≡ Some cause
line_some badly_named long_named late fields cause h =
    let set_long = names_set (field_at 1 fields) && is_long_name (field_at 1 fields) in
    let rows = take 8 (line_causes badly_named long_named fields) in
    let some : least_cause (rows ++ (causes.Limit, long_named || set_long) ∷ []) ≡ Some cause = sym (ap least_cause (line_rows badly_named long_named long_named fields)) ∙ h in
    ap least_cause (line_rows badly_named long_named (long_named || late) fields) ∙ counted_some rows (long_named || set_long) late ((long_named || late) || set_long) cause (by_three long_named set_long late) some

pub zone_counted : (before : Contents) (number : ℕ) (fields : List (List ℕ)) (told : Result Entry Cause) → Tells written_entry (line_causes (is_bad_name (field_at 1 fields)) (is_long_name (field_at 1 fields)) (drop 2 fields)) (record_of ZoneLine number fields) told → TellsUncounted written_entry (exceeds before) (record_causes before ZoneLine fields) (record_of ZoneLine number fields) told
zone_counted before number fields (Ok entry) tells =
    let is = zone_exceeds before (field_at 1 fields) (line_of number (drop 2 fields)) (written_entry entry) tells.1 in
    (rw is (line_none (is_bad_name (field_at 1 fields)) (is_long_name (field_at 1 fields)) (exceeds_zones before) (drop 2 fields) tells.0), tells.1)
zone_counted before number fields (Err cause) tells =
    line_some (is_bad_name (field_at 1 fields)) (is_long_name (field_at 1 fields)) (exceeds_zones before) (drop 2 fields) cause tells

pub continuation_counted : (before : Contents) (number : ℕ) (fields : List (List ℕ)) (told : Result Entry Cause) → Tells written_entry (line_causes false false fields) (record_of ContinuationLine number fields) told → TellsUncounted written_entry (exceeds before) (record_causes before ContinuationLine fields) (record_of ContinuationLine number fields) told
continuation_counted before number fields (Ok entry) tells =
    let is = line_exceeds before (line_of number fields) (written_entry entry) tells.1 in
    (rw is (line_none false false (exceeds_lines before) fields tells.0), tells.1)
continuation_counted before number fields (Err cause) tells = line_some false false (exceeds_lines before) fields cause tells

pub link_counted : (before : Contents) (number : ℕ) (fields : List (List ℕ)) (told : Result Entry Cause) → Tells written_entry (link_causes false fields) (record_of LinkLine number fields) told → TellsUncounted written_entry (exceeds before) (record_causes before LinkLine fields) (record_of LinkLine number fields) told
link_counted before number fields (Ok entry) tells =
    let target = is_long_name (field_at 1 fields) in
    let name = is_long_name (field_at 2 fields) in
    let late = exceeds_links before in
    let is : exceeds before (written_entry entry) ≡ late = ap (exceeds before) (sym (same_Some _ _ tells.1)) in
    (rw is (counted_none (take 1 (link_causes false fields)) (target || name || false) late (target || name || late) (by_links target name late) tells.0), tells.1)
link_counted before number fields (Err cause) tells =
    let target = is_long_name (field_at 1 fields) in
    let name = is_long_name (field_at 2 fields) in
    let late = exceeds_links before in
    counted_some (take 1 (link_causes false fields)) (target || name || false) late (target || name || late) cause (by_links target name late) tells

-- ---- the kind of a record

-- no record has more fields than are kept
pub few_counted : (kind : Kind) (count : ℕ) → has_count kind count ≡ true → count ≤ MOST_KEPT
few_counted RuleLine count h =
    let is = eqb-true count 10 h in
    omega arith
few_counted ZoneLine count h =
    let high = leb-true count 9 (and_parts (nat_le 5 count) (nat_le count 9) h).1 in
    omega arith
few_counted LinkLine count h =
    let is = eqb-true count 3 h in
    omega arith
few_counted ContinuationLine count h =
    let high = leb-true count 7 (and_parts (nat_le 3 count) (nat_le count 7) h).1 in
    omega arith

-- a record that has its fields

pub counted_cause : (before : Contents) (waiting : Bool) (all : List (List ℕ)) (kept : Kept) (kind : Kind) → waits before ≡ waiting → kept_of all ≡ kept → 0 < kept.count → kind_of_record waiting all ≡ Some kind → has_count kind kept.count ≡ true → least_cause (field_causes before all) ≡ least_cause (record_causes before kind kept.first)
counted_cause before waiting [] kept kind same e some is counted = none_kept kept e some
counted_cause before waiting (field ∷ fields) kept kind same e some is counted =
    let count = count_kept (field ∷ fields) kept e in
    let whole : kept.first ≡ field ∷ fields = all_kept (field ∷ fields) kept e (few_counted kind kept.count counted) in
    rw (same, is, count, counted, whole) refl

pub counted_record : (before : Contents) (waiting : Bool) (number : ℕ) (all : List (List ℕ)) (kept : Kept) (kind : Kind) → waits before ≡ waiting → kept_of all ≡ kept → 0 < kept.count → kind_of_record waiting all ≡ Some kind → has_count kind kept.count ≡ true → record_of_fields before number all ≡ record_of kind number kept.first
counted_record before waiting number [] kept kind same e some is counted = none_kept kept e some
counted_record before waiting number (field ∷ fields) kept kind same e some is counted =
    let whole : kept.first ≡ field ∷ fields = all_kept (field ∷ fields) kept e (few_counted kind kept.count counted) in
    rw (same, is, whole) refl

-- ---- the line

-- the causes of the fields of a line, with that of its place
abbrev rows_at : Contents → ℕ → List (List ℕ) → List (Cause × Bool)
rows_at before place fields = field_causes before fields ++ number_causes place

-- a line that has a cause by itself
pub refuses : (waiting : Bool) (line : List ℕ) (cause : Cause) → least_cause (opening_causes line) ≡ Some cause → RefusesAlone waiting line cause
refuses waiting line cause h = λ before place same. early_cause (rows_at before place) line cause h

-- what the fields of a line say is what the line says
abbrev SaysFields : Bool → ℕ → Kept → Result (Option Entry) Cause → Type 0
SaysFields waiting number kept told =
    (before : Contents) (all : List (List ℕ)) → waits before ≡ waiting → kept_of all ≡ kept → TellsUncounted (option_map written_entry) (exceeds_said before) (field_causes before all) (Some (record_of_fields before number all)) told

pub says_alone : (waiting : Bool) (number : ℕ) (line : List ℕ) (kept : Kept) (told : Result (Option Entry) Cause) → least_cause (opening_causes line) ≡ None → option_map kept_of (fields_of line) ≡ Some kept → SaysFields waiting number kept told → IfOk told (λ said. SaysAlone waiting number line (option_map written_entry said))
says_alone waiting number line kept (Ok said) none e says =
    record {
      record_is = λ before same. whole_cause (rows_at before number) (λ cause all. record_of_fields before number all ≡ option_map written_entry said) line kept none e (λ all is. same_Some _ _ (says before all same is).1);
      cause_is = λ before place same. whole_cause (rows_at before place) (λ cause all. cause ≡ least_cause (count_causes before place (option_map written_entry said))) line kept none e (λ all is. least_same (field_causes before all) ((causes.Limit, exceeds_said before (option_map written_entry said)) ∷ []) (number_causes place) (says before all same is).0);
    }
says_alone waiting number line kept (Err cause) none e says = tt

pub refuses_alone : (waiting : Bool) (number : ℕ) (line : List ℕ) (kept : Kept) (told : Result (Option Entry) Cause) → least_cause (opening_causes line) ≡ None → option_map kept_of (fields_of line) ≡ Some kept → SaysFields waiting number kept told → IfErr told (RefusesAlone waiting line)
refuses_alone waiting number line kept (Ok said) none e says = tt
refuses_alone waiting number line kept (Err cause) none e says =
    λ before place same. whole_cause (rows_at before place) (λ it all. it ≡ Some cause) line kept none e (λ all is. least_before (field_causes before all) (number_causes place) cause (says before all same is))
