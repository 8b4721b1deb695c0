-- A line without a cause says a record that may follow what stands before it.
use Rattle.std.proofs.Common.{◌≡◌, ℕ, ℤ, zero, suc, ◌+◌, ◌==◌, Bool, true, false, not, ◌&&◌, ◌||◌, if◌then◌else◌, nat_lt, IsTrue, List, [], ◌∷◌, ◌++◌, length, drop, Option, Some, None, option_map, Ok, refl, sym, ap, ◌∙◌, subst, arith}
use Rattle.std.proofs.lemmas.Bool.{and_parts, and_from, or_parts}
use Rattle.std.specs.Option.{is_none, IfSome}
use Rattle.std.specs.List.{list_all, list_any, slice_get}
use Rattle.std.proofs.lemmas.Bool.Decides.{nat_tests}
use Rattle.std.proofs.lemmas.Option.{same_Some}
use Rattle.tz_types.specs.Order.{name_before}
use Rattle.tz_types.specs.declared.limit.TheConstants.{MOST_TEXT_LINES, LONGEST_LINE}
use Rattle.tz_types.specs.declared.calendar.Month.{Month}
use Rattle.tz_types.specs.declared.calendar.On.{On}
use Rattle.tz_types.specs.declared.moment.AtKind.{AtKind}
use Rattle.tz_types.specs.declared.format.Format.{Format}
use Rattle.tz_types.specs.declared.cause.Cause.{Cause}
use Rattle.tz_types.specs.declared.cause.Cause.TheVariants as causes
use Rattle.tz_specs.specs.Choice.{◌>>=◌}
use Rattle.tz_specs.specs.Causes.{least_cause, unless_cause}
use Rattle.tz_specs.specs.Line.{line_length}
use Rattle.tz_specs.specs.Field.{fields_of}
use Rattle.tz_specs.specs.Word.{named_entry}
use Rattle.tz_specs.specs.Value.{field_at, month_named, years_of, time_of, stdoff_of, save_of, rules_of, format_of, letters_of, is_bad_name, is_long_name}
use Rattle.tz_specs.specs.Written.{WrittenRule, WrittenSet, WrittenRules, WrittenUntil, WrittenLine, Record, RuleRecord, ZoneRecord, Continuation, LinkRecord}
use Rattle.tz_specs.specs.Record.{Kind, RuleLine, ZoneLine, LinkLine, ContinuationLine, keyword_table, kind_of_record, has_count, rule_day, rule_causes, link_causes, rule_of, until_of, line_of, link_of, record_of}
use Rattle.tz_specs.specs.Contents.{Contents, waits, exceeds_rules, exceeds_zones, exceeds_lines, exceeds_links, record_causes, kind_causes, field_causes, fields_or_none, causes_of_line, record_of_fields, line_says, with_rule, with_record, with_said, is_set_named}
use Rattle.tz_records.proofs.LeastCauses.{rows_false, front_false, row_at}
use Rattle.tz_records.proofs.ZoneLines.{well_named}
use Rattle.tz_records.specs.declared.entry.Entry.{Entry}
use Rattle.tz_records.specs.Entry.{written_entry}
use Rattle.tz_records.specs.Counts.{exceeds}
use Rattle.tz_records.specs.LineAlone.{SaysAlone}
use Rattle.tz_records.proofs.ZoneTextLines.{rule_exceeds, zone_exceeds, line_exceeds}
use Rattle.tz_lines.specs.RecordOrder.{are_before, is_in_place, may_follow}

-- what no cause of a kind of line says of the limit

rule_room : (too_many : Bool) (fields : List (List ℕ)) → least_cause (rule_causes too_many fields) ≡ None → too_many ≡ false
unfolding rule_causes
rule_room too_many fields h =
    (or_parts (is_long_name (field_at 1 fields)) too_many (row_at (rule_causes too_many fields) h 10 (causes.Limit, is_long_name (field_at 1 fields) || too_many) refl)).1

link_room : (too_many : Bool) (fields : List (List ℕ)) → least_cause (link_causes too_many fields) ≡ None → too_many ≡ false
link_room too_many fields h =
    (or_parts (is_long_name (field_at 1 fields) || is_long_name (field_at 2 fields)) too_many (row_at (link_causes too_many fields) h 1 (causes.Limit, is_long_name (field_at 1 fields) || is_long_name (field_at 2 fields) || too_many) refl)).1

-- a rule stands at its line

abbrev rule_by : ℕ → List ℕ → Option (ℤ × ℤ) → Option Month → Option On → Option (ℤ × AtKind) → Option (ℤ × Bool) → Option WrittenRule
rule_by number letters years month on time save = do
  span ← years
  name ← month
  day ← on
  moment ← time
  shift ← save
  Some (
      record {
        from = span.0;
        to = span.1;
        moment = record { month = name; on = day; at = moment.0; kind = moment.1 };
        save = shift.0;
        daylight = shift.1;
        letters = letters;
        line = number;
      })

line_or : ℕ → Option WrittenRule → ℕ
line_or number None = number
line_or number (Some rule) = rule.line

rule_by-line : (number : ℕ) (letters : List ℕ) (years : Option (ℤ × ℤ)) (month : Option Month) (on : Option On) (time : Option (ℤ × AtKind)) (save : Option (ℤ × Bool)) → line_or number (rule_by number letters years month on time save) ≡ number
unfolding line_or
rule_by-line number letters None month on time save = refl
rule_by-line number letters (Some span) None on time save = refl
rule_by-line number letters (Some span) (Some name) None time save = refl
rule_by-line number letters (Some span) (Some name) (Some day) None save = refl
rule_by-line number letters (Some span) (Some name) (Some day) (Some moment) None = refl
rule_by-line number letters (Some span) (Some name) (Some day) (Some moment) (Some shift) = refl

rule_line : (number : ℕ) (fields : List (List ℕ)) (rule : WrittenRule) → rule_of number fields ≡ Some rule → rule.line ≡ number
unfolding rule_of line_or
rule_line number fields rule h =
    ap (line_or number) (sym h)
    ∙ rule_by-line number (letters_of (field_at 9 fields)) (years_of (field_at 2 fields) (field_at 3 fields)) (month_named (field_at 5 fields)) (rule_day fields) (time_of (field_at 7 fields)) (save_of (field_at 8 fields))

-- and so does a line of a zone

abbrev zone_line_by : ℕ → Option ℤ → Option WrittenRules → Option Format → Option (Option WrittenUntil) → Option WrittenLine
zone_line_by number stdoff rules format until = do
  offset ← stdoff
  following ← rules
  form ← format
  end ← until
  Some (record { stdoff = offset; rules = following; format = form; until = end; line = number })

zone_line_or : ℕ → Option WrittenLine → ℕ
zone_line_or number None = number
zone_line_or number (Some line) = line.line

zone_line_by-line : (number : ℕ) (stdoff : Option ℤ) (rules : Option WrittenRules) (format : Option Format) (until : Option (Option WrittenUntil)) → zone_line_or number (zone_line_by number stdoff rules format until) ≡ number
unfolding zone_line_or
zone_line_by-line number None rules format until = refl
zone_line_by-line number (Some offset) None format until = refl
zone_line_by-line number (Some offset) (Some following) None until = refl
zone_line_by-line number (Some offset) (Some following) (Some form) None = refl
zone_line_by-line number (Some offset) (Some following) (Some form) (Some end) = refl

zone_line : (number : ℕ) (fields : List (List ℕ)) (line : WrittenLine) → line_of number fields ≡ Some line → line.line ≡ number
unfolding line_of zone_line_or
zone_line number fields line h =
    ap (zone_line_or number) (sym h)
    ∙ zone_line_by-line number (stdoff_of (field_at 0 fields)) (rules_of (field_at 1 fields)) (format_of (field_at 2 fields)) (until_of fields)

-- a line is a continuation only where the zone before it waits

no_keyword : (place : Option ℕ) → (place >>= λ it. slice_get (RuleLine ∷ ZoneLine ∷ LinkLine ∷ []) it) ≡ Some ContinuationLine → false ≡ true
no_keyword None h = cc
no_keyword (Some zero) h = cc
no_keyword (Some (suc zero)) h = cc
no_keyword (Some (suc (suc zero))) h = cc
no_keyword (Some (suc (suc (suc place)))) h = cc

waits_for : (waiting : Bool) (fields : List (List ℕ)) → kind_of_record waiting fields ≡ Some ContinuationLine → waiting ≡ true
waits_for true fields h = refl
waits_for false fields h = no_keyword (named_entry (field_at 0 fields) keyword_table) h

-- rules before a line stand before the next line too, and so does a rule at that line

lines_before : (number : ℕ) (rules : List WrittenRule) → list_all (λ (rule : WrittenRule). nat_lt rule.line number) rules ≡ true → list_all (λ (rule : WrittenRule). nat_lt rule.line (number + 1)) rules ≡ true
lines_before number [] h = refl
lines_before number (rule ∷ rules) h =
    let here = (and_parts (nat_lt rule.line number) (list_all (λ (it : WrittenRule). nat_lt it.line number) rules) h).0 in
    let later = (and_parts (nat_lt rule.line number) (list_all (λ (it : WrittenRule). nat_lt it.line number) rules) h).1 in
    and_from (nat_lt rule.line (number + 1)) (list_all (λ (it : WrittenRule). nat_lt it.line (number + 1)) rules) (grind (arith, nat_tests)) (lines_before number rules later)

abbrev rules_before : ℕ → WrittenSet → Bool
rules_before number set = list_all (λ (rule : WrittenRule). nat_lt rule.line number) set.rules

pub still_before : (number : ℕ) (sets : List WrittenSet) → are_before number sets ≡ true → are_before (number + 1) sets ≡ true
still_before number [] h = refl
still_before number (set ∷ sets) h =
    and_from (rules_before (number + 1) set) (are_before (number + 1) sets) (lines_before number set.rules (and_parts (rules_before number set) (are_before number sets) h).0) (still_before number sets (and_parts (rules_before number set) (are_before number sets) h).1)

pushed_before : (number : ℕ) (rules : List WrittenRule) (rule : WrittenRule) → nat_lt rule.line number ≡ true → list_all (λ (it : WrittenRule). nat_lt it.line number) rules ≡ true → list_all (λ (it : WrittenRule). nat_lt it.line number) (rules ++ rule ∷ []) ≡ true
pushed_before number [] rule before h = and_from (nat_lt rule.line number) true before refl
pushed_before number (it ∷ rules) rule before h =
    and_from (nat_lt it.line number) (list_all (λ (it : WrittenRule). nat_lt it.line number) (rules ++ rule ∷ [])) (and_parts (nat_lt it.line number) (list_all (λ (it : WrittenRule). nat_lt it.line number) rules) h).0 (pushed_before number rules rule before (and_parts (nat_lt it.line number) (list_all (λ (it : WrittenRule). nat_lt it.line number) rules) h).1)

added_before : (number : ℕ) (name : List ℕ) (rule : WrittenRule) (sets : List WrittenSet) → nat_lt rule.line number ≡ true → are_before number sets ≡ true → are_before number (with_rule name rule sets) ≡ true
added_before number name rule [] before h =
    and_from (nat_lt rule.line number && true) true (and_from (nat_lt rule.line number) true before refl) refl
added_before number name rule (set ∷ sets) before h =
    let here = (and_parts (rules_before number set) (are_before number sets) h).0 in
    let later = (and_parts (rules_before number set) (are_before number sets) h).1 in
    by_name (is_set_named name set) (name_before name set.name) here later (pushed_before number set.rules rule before here) (added_before number name rule sets before later)
  where
    by_name : (same earlier : Bool) → rules_before number set ≡ true → are_before number sets ≡ true → list_all (λ (it : WrittenRule). nat_lt it.line number) (set.rules ++ rule ∷ []) ≡ true → are_before number (with_rule name rule sets) ≡ true → are_before number (if same then record { name = name; rules = set.rules ++ rule ∷ [] } ∷ sets else (if earlier then record { name = name; rules = rule ∷ [] } ∷ set ∷ sets else set ∷ with_rule name rule sets)) ≡ true
    by_name true earlier here later pushed added = and_from (list_all (λ (it : WrittenRule). nat_lt it.line number) (set.rules ++ rule ∷ [])) (are_before number sets) pushed later
    by_name false true here later pushed added = and_from (nat_lt rule.line number && true) (rules_before number set && are_before number sets) (and_from (nat_lt rule.line number) true before refl) h
    by_name false false here later pushed added = and_from (rules_before number set) (are_before number (with_rule name rule sets)) here added

-- a zone begins at that line, and a link stands there
abbrev pub StandsAt : ℕ → Record → Type 0
StandsAt number (RuleRecord name rule) = Unit {0}
StandsAt number (ZoneRecord name line) = line.line ≡ number
StandsAt number (Continuation line) = Unit {0}
StandsAt number (LinkRecord link) = link.line ≡ number

-- The record of a line is in its place. A zone or a link stands at the line, and all rules stand before the next.
pub record IsPlaced (contents : Contents) (number : ℕ) (said : Record) : Type 0 where
  pub in_place : IsTrue (is_in_place contents said)
  pub stands : StandsAt number said
  pub before : IsTrue (are_before (number + 1) (with_record said contents).sets)

rule_placed : (contents : Contents) (number : ℕ) (name : List ℕ) (rule : Option WrittenRule) (said : Record) → ((it : WrittenRule) → rule ≡ Some it → it.line ≡ number) → option_map (RuleRecord name) rule ≡ Some said → are_before number contents.sets ≡ true → IsPlaced contents number said
rule_placed contents number name None said at e h = cc
rule_placed contents number name (Some rule) said at e h =
    let same = same_Some (RuleRecord name rule) said e in
    let line = at rule refl in
    let earlier : nat_lt rule.line (number + 1) ≡ true = grind (arith, nat_tests) in
    subst (IsPlaced contents number) same (record {
      in_place = rw line h;
      stands = tt;
      before = added_before (number + 1) name rule contents.sets earlier (still_before number contents.sets h);
    })

zone_placed : (contents : Contents) (number : ℕ) (name : List ℕ) (line : Option WrittenLine) (said : Record) → ((it : WrittenLine) → line ≡ Some it → it.line ≡ number) → option_map (ZoneRecord name) line ≡ Some said → are_before number contents.sets ≡ true → IsPlaced contents number said
zone_placed contents number name None said at e h = cc
zone_placed contents number name (Some line) said at e h =
    let same = same_Some (ZoneRecord name line) said e in
    subst (IsPlaced contents number) same (record { in_place = refl; stands = at line refl; before = still_before number contents.sets h })

continuation_placed : (contents : Contents) (number : ℕ) (line : Option WrittenLine) (said : Record) → option_map Continuation line ≡ Some said → waits contents ≡ true → are_before number contents.sets ≡ true → IsPlaced contents number said
continuation_placed contents number None said e waiting h = cc
continuation_placed contents number (Some line) said e waiting h =
    let same = same_Some (Continuation line) said e in
    subst (IsPlaced contents number) same (record { in_place = waiting; stands = tt; before = still_before number contents.sets h })

kind_placed : (contents : Contents) (number : ℕ) (fields : List (List ℕ)) (kind : Kind) (said : Record) → kind_of_record (waits contents) fields ≡ Some kind → record_of kind number fields ≡ Some said → are_before number contents.sets ≡ true → IsPlaced contents number said
kind_placed contents number fields RuleLine said named e h =
    rule_placed contents number (field_at 1 fields) (rule_of number fields) said (rule_line number fields) e h
kind_placed contents number fields ZoneLine said named e h =
    zone_placed contents number (field_at 1 fields) (line_of number (drop 2 fields)) said (zone_line number (drop 2 fields)) e h
kind_placed contents number fields LinkLine said named e h =
    let same = same_Some (LinkRecord (link_of number fields)) said e in
    subst (IsPlaced contents number) same (record { in_place = refl; stands = refl; before = still_before number contents.sets h })
kind_placed contents number fields ContinuationLine said named e h =
    continuation_placed contents number (line_of number fields) said e (waits_for (waits contents) fields named) h

named_placed : (contents : Contents) (number : ℕ) (fields : List (List ℕ)) (kind : Option Kind) (said : Record) → kind_of_record (waits contents) fields ≡ kind → (kind >>= λ it. record_of it number fields) ≡ Some said → are_before number contents.sets ≡ true → IsPlaced contents number said
named_placed contents number fields None said named e h = cc
named_placed contents number fields (Some kind) said named e h =
    kind_placed contents number fields kind said named e h

-- what fields say is in its place
pub placed : (contents : Contents) (number : ℕ) (fields : List (List ℕ)) (said : Record) → record_of_fields contents number fields ≡ Some said → IsTrue (are_before number contents.sets) → IsPlaced contents number said
placed contents number [] said e h = cc
placed contents number (field ∷ fields) said e h =
    named_placed contents number (field ∷ fields) (kind_of_record (waits contents) (field ∷ fields)) said refl e h

-- a record without a cause isn't one too many

kind_room : (contents : Contents) (number : ℕ) (fields : List (List ℕ)) (kind : Kind) (said : Record) → least_cause (record_causes contents kind fields) ≡ None → record_of kind number fields ≡ Some said → exceeds contents said ≡ false
kind_room contents number fields RuleLine said none e =
    rule_exceeds contents (field_at 1 fields) (rule_of number fields) said e ∙ rule_room (exceeds_rules (field_at 1 fields) contents) fields none
kind_room contents number fields ZoneLine said none e =
    let good = well_named (is_bad_name (field_at 1 fields)) (is_long_name (field_at 1 fields) || exceeds_zones contents) (drop 2 fields) none in
    zone_exceeds contents (field_at 1 fields) (line_of number (drop 2 fields)) said e ∙ (or_parts (is_long_name (field_at 1 fields)) (exceeds_zones contents) good.1).1
kind_room contents number fields LinkLine said none e =
    ap (exceeds contents) (sym (same_Some (LinkRecord (link_of number fields)) said e)) ∙ link_room (exceeds_links contents) fields none
kind_room contents number fields ContinuationLine said none e =
    line_exceeds contents (line_of number fields) said e ∙ (well_named false (exceeds_lines contents) fields none).1

named_room : (contents : Contents) (number : ℕ) (fields : List (List ℕ)) (kind : Option Kind) (said : Record) → least_cause (kind_causes contents kind fields) ≡ None → (kind >>= λ it. record_of it number fields) ≡ Some said → exceeds contents said ≡ false
named_room contents number fields None said none e = cc
named_room contents number fields (Some kind) said none e =
    kind_room contents number fields kind said (rows_false (causes.FieldCount, not (has_count kind (length fields))) (record_causes contents kind fields) none) e

room : (contents : Contents) (number : ℕ) (fields : List (List ℕ)) (said : Record) → least_cause (field_causes contents fields) ≡ None → record_of_fields contents number fields ≡ Some said → exceeds contents said ≡ false
room contents number [] said none e = cc
room contents number (field ∷ fields) said none e =
    named_room contents number (field ∷ fields) (kind_of_record (waits contents) (field ∷ fields)) said none e

-- The record of a line may follow what stands before it. A zone or a link stands at the line, and all rules stand before the next.
pub record Follows (contents : Contents) (number : ℕ) (said : Record) : Type 0 where
  pub may : IsTrue (may_follow contents said)
  pub stands : StandsAt number said
  pub before : IsTrue (are_before (number + 1) (with_record said contents).sets)

by_cause : (cause : Option Cause) (told : Option Record) (said : Record) → unless_cause cause told ≡ Ok (Some said) → (cause ≡ None) × (told ≡ Some said)
by_cause None told said e = (refl, cc)
by_cause (Some cause) told said e = cc

pub follows : (contents : Contents) (number : ℕ) (line : List ℕ) (said : Record) → line_says contents number line ≡ Ok (Some said) → IsTrue (are_before number contents.sets) → Follows contents number said
unfolding line_says
follows contents number line said e h =
    let fields = fields_or_none (fields_of line) in
    let told = by_cause (least_cause (causes_of_line contents number line)) (record_of_fields contents number fields) said e in
    let late = (causes.Limit, nat_lt MOST_TEXT_LINES number) ∷ [] in
    let open_quote = (causes.OpenQuote, is_none (fields_of line)) ∷ (field_causes contents fields ++ late) in
    let none = rows_false (causes.OpenQuote, is_none (fields_of line)) (field_causes contents fields ++ late) (rows_false (causes.Nul, list_any (λ byte. byte == 0) line) open_quote (rows_false (causes.LongLine, nat_lt LONGEST_LINE (line_length line)) ((causes.Nul, list_any (λ byte. byte == 0) line) ∷ open_quote) told.0)) in
    let is = placed contents number fields said told.1 h in
    let fits = room contents number fields said (front_false (field_causes contents fields) late none) told.1 in
    record {
      may = and_from (is_in_place contents said) (not (exceeds contents said)) is.in_place (ap not fits);
      stands = is.stands;
      before = is.before;
    }

-- ---- what a line says by itself

pub said_placed : (before : Contents) (waiting : Bool) (number : ℕ) (line : List ℕ) (said : Option Entry) → waits before ≡ waiting → SaysAlone waiting number line (option_map written_entry said) → IsTrue (are_before number before.sets) → IfSome said (λ entry. IsTrue (is_in_place before (written_entry entry)))
said_placed before waiting number line None same says h = tt
said_placed before waiting number line (Some entry) same says h =
    (placed before number (fields_or_none (fields_of line)) (written_entry entry) (says.record_is before same) h).in_place

pub said_before : (before : Contents) (waiting : Bool) (number : ℕ) (line : List ℕ) (said : Option Entry) → waits before ≡ waiting → SaysAlone waiting number line (option_map written_entry said) → IsTrue (are_before number before.sets) → IsTrue (are_before (number + 1) (with_said (option_map written_entry said) before).sets)
said_before before waiting number line None same says h = still_before number before.sets h
said_before before waiting number line (Some entry) same says h =
    (placed before number (fields_or_none (fields_of line)) (written_entry entry) (says.record_is before same) h).before
