-- The rules of a set are those of the Rule records of its name, the links are those of the Link records, and the zones those of
-- the Zone records with the lines that continue them, all in their order.
use Rattle.std.proofs.Common.{◌≡◌, ℕ, ◌+◌, Bool, true, false, IsTrue, List, [], ◌∷◌, ◌++◌, length, map, filter_map, Option, Some, None, Result, Ok, Err, refl, sym, ap, ◌∙◌, ⊎_elim, subst, append_assoc, append-nil}
use Rattle.std.specs.List.{cons_option}
use Rattle.std.proofs.lemmas.Bool.{cases_Bool}
use Rattle.std.proofs.lemmas.List.Elements.{filter_map-append}
use Rattle.tz_types.specs.Order.{ascends, ascends_after, name_before}
use Rattle.tz_types.specs.declared.cause.Cause.{Cause}
use Rattle.tz_types.specs.declared.fault.LineFault.{LineFault}
use Rattle.tz_specs.specs.Choice.{only_if}
use Rattle.tz_specs.specs.Line.{lines_of}
use Rattle.tz_specs.specs.Value.{is_exactly}
use Rattle.tz_specs.specs.Written.{WrittenRule, WrittenSet, WrittenLine, WrittenZone, Record, RuleRecord, ZoneRecord, Continuation, LinkRecord}
use Rattle.tz_specs.specs.Contents.{Contents, no_contents, at_end_of_file, is_set_named, with_rule, with_line, with_record, line_says, contents_after, contents_over, contents_of}
use Rattle.tz_specs.proofs.AscendingLemmas.{never_before_itself, before_later, both_hold, ascends_later}
use Rattle.tz_lines.proofs.GatheredLines.{given_by, after_line, after_all, files_after, after_file, over_all, files_from_none}
use Rattle.tz_text_laws.specs.Records.{records_after, records_over, records_of, rule_named, rules_in, link_said, continued, zones_said}
use Rattle.tz_text_laws.proofs.Names.{same_name}
use Rattle.tz_text_laws.proofs.GoodContents.{GoodContents, said_good, contents_good, ended, none_good}

-- ---- one more rule

-- the rule alone, where it has the name
abbrev alone : Bool → WrittenRule → List WrittenRule
alone named rule = cons_option (only_if named rule) []

not_both : (own name wanted : List ℕ) → is_exactly own name ≡ false → own ≡ wanted → is_exactly name wanted ≡ false
not_both own name wanted apart same =
    ⊎_elim
    (λ (named : is_exactly name wanted ≡ true).
    let is : name ≡ wanted = same_name name wanted named in
    let own_name : own ≡ name = same ∙ sym is in
    let both : is_exactly own name ≡ true = ap (λ it. is_exactly it name) own_name ∙ ap (is_exactly name) is ∙ named in
    let bad : true ≡ false = sym both ∙ apart in
    absurd (cc))
    (λ (other : is_exactly name wanted ≡ false). other)
    (cases_Bool (is_exactly name wanted))

-- a name that comes before another isn't that one
comes_apart : (name other : List ℕ) → IsTrue (name_before name other) → is_exactly other name ≡ false
comes_apart name other before =
    ⊎_elim
    (λ (named : is_exactly other name ≡ true).
    absurd (never_before_itself name (subst (λ it. IsTrue (name_before name it)) (same_name other name named) before)))
    (λ (apart : is_exactly other name ≡ false). apart)
    (cases_Bool (is_exactly other name))

-- a name before those of ascending sets is the name of none
none_among : (name least : List ℕ) (sets : List WrittenSet) → IsTrue (name_before name least) → IsTrue (ascends_after name_before least (map (λ (it : WrittenSet). it.name) sets)) → rules_in name sets ≡ []
none_among name least [] before ascend = refl
none_among name least (next ∷ sets) before ascend =
    let both = both_hold (name_before least next.name) (ascends_after name_before next.name (map (λ (it : WrittenSet). it.name) sets)) ascend in
    let first = before_later name least next.name before both.0 in
    rw (comes_apart name next.name first) (none_among name next.name sets first both.1)

none_named : (name : List ℕ) (set : WrittenSet) (sets : List WrittenSet) → IsTrue (name_before name set.name) → IsTrue (ascends_after name_before set.name (map (λ (it : WrittenSet). it.name) sets)) → rules_in name (set ∷ sets) ≡ []
none_named name set sets before ascend =
    rw (comes_apart name set.name before) (none_among name set.name sets before ascend)

rules_with : (wanted name : List ℕ) (rule : WrittenRule) (sets : List WrittenSet) → IsTrue (ascends name_before (map (λ (it : WrittenSet). it.name) sets)) → rules_in wanted (with_rule name rule sets) ≡ rules_in wanted sets ++ alone (is_exactly name wanted) rule
rules_with wanted name rule [] ascend =
    ⊎_elim (λ (named : is_exactly name wanted ≡ true). rw named refl) (λ (other : is_exactly name wanted ≡ false). rw other refl) (cases_Bool (is_exactly name wanted))
rules_with wanted name rule (set ∷ sets) ascend =
    by_place (rules_with wanted name rule sets (ascends_later (λ (it : WrittenSet). it.name) set sets ascend)) (is_set_named name set) (name_before name set.name) (is_exactly name wanted) (is_exactly set.name wanted) refl refl refl refl
  where
    by_place : rules_in wanted (with_rule name rule sets) ≡ rules_in wanted sets ++ alone (is_exactly name wanted) rule → (here before named mine : Bool) → is_set_named name set ≡ here → name_before name set.name ≡ before → is_exactly name wanted ≡ named → is_exactly set.name wanted ≡ mine → rules_in wanted (with_rule name rule (set ∷ sets)) ≡ rules_in wanted (set ∷ sets) ++ alone (is_exactly name wanted) rule
    by_place later true before true true h b n m = rw (h, n, m) refl
    by_place later true before false false h b n m = rw (h, n, m) (sym (append-nil (rules_in wanted sets)))
    by_place later true before true false h b n m =
        let same = same_name set.name name h in
        let bad : true ≡ false = sym n ∙ sym (ap (λ it. is_exactly it wanted) same) ∙ m in absurd (cc)
    by_place later true before false true h b n m =
        let same = same_name set.name name h in
        let bad : true ≡ false = sym m ∙ ap (λ it. is_exactly it wanted) same ∙ n in absurd (cc)
    by_place later false true true mine h b n m =
        let same : name ≡ wanted = same_name name wanted n in
        let none : rules_in wanted (set ∷ sets) ≡ [] = none_named wanted set sets (subst (λ it. IsTrue (name_before it set.name)) same b) ascend in
        rw (h, b, n, none) refl
    by_place later false true false mine h b n m = rw (h, b, n) (sym (append-nil (rules_in wanted (set ∷ sets))))
    by_place later false false named true h b n m =
        let other : is_exactly name wanted ≡ false = not_both set.name name wanted h (same_name set.name wanted m) in
        rw (h, b, m, other) (sym (append-nil set.rules))
    by_place later false false named false h b n m =
        rw (h, b, m) later

rules_said : (wanted : List ℕ) (said : Record) (contents : Contents) → IsTrue (ascends name_before (map (λ (it : WrittenSet). it.name) contents.sets)) → rules_in wanted (with_record said contents).sets ≡ rules_in wanted contents.sets ++ cons_option (rule_named wanted said) []
rules_said wanted (RuleRecord name rule) contents ascend = rules_with wanted name rule contents.sets ascend
rules_said wanted (ZoneRecord name line) contents ascend = sym (append-nil (rules_in wanted contents.sets))
rules_said wanted (Continuation line) contents ascend = sym (append-nil (rules_in wanted contents.sets))
rules_said wanted (LinkRecord link) contents ascend = sym (append-nil (rules_in wanted contents.sets))

links_said : (said : Record) (contents : Contents) → (with_record said contents).links ≡ contents.links ++ cons_option (link_said said) []
links_said (RuleRecord name rule) contents = sym (append-nil contents.links)
links_said (ZoneRecord name line) contents = sym (append-nil contents.links)
links_said (Continuation line) contents = sym (append-nil contents.links)
links_said (LinkRecord link) contents = refl

-- ---- one more zone, or one more line of the last zone

-- the zones with one more record
abbrev with_zone : Record → List WrittenZone → List WrittenZone
with_zone (RuleRecord name rule) zones = zones
with_zone (ZoneRecord name line) zones = zones ++ record { name = name; lines = line ∷ [] } ∷ []
with_zone (Continuation line) zones = with_line line zones
with_zone (LinkRecord link) zones = zones

zones_with : (said : Record) (contents : Contents) → (with_record said contents).zones ≡ with_zone said contents.zones
zones_with (RuleRecord name rule) contents = refl
zones_with (ZoneRecord name line) contents = refl
zones_with (Continuation line) contents = refl
zones_with (LinkRecord link) contents = refl

-- the zones with more records, one after another
abbrev zones_after : List WrittenZone → List Record → List WrittenZone
zones_after zones [] = zones
zones_after zones (said ∷ records) = zones_after (with_zone said zones) records

zones_after-append : (zones : List WrittenZone) (here there : List Record) → zones_after zones (here ++ there) ≡ zones_after (zones_after zones here) there
zones_after-append zones [] there = refl
zones_after-append zones (said ∷ here) there = zones_after-append (with_zone said zones) here there

-- the zones with more lines of the last one
abbrev with_lines : List WrittenLine → List WrittenZone → List WrittenZone
with_lines [] zones = zones
with_lines (line ∷ lines) zones = with_lines lines (with_line line zones)

with_lines-none : (lines : List WrittenLine) → with_lines lines [] ≡ []
with_lines-none [] = refl
with_lines-none (line ∷ lines) = with_lines-none lines

with_line-last : (line : WrittenLine) (zones : List WrittenZone) (name : List ℕ) (lines : List WrittenLine) → with_line line (zones ++ record { name = name; lines = lines } ∷ []) ≡ zones ++ record { name = name; lines = lines ++ line ∷ [] } ∷ []
with_line-last line [] name lines = refl
with_line-last line (zone ∷ []) name lines = refl
with_line-last line (zone ∷ next ∷ zones) name lines =
    ap (λ it. zone ∷ it) (with_line-last line (next ∷ zones) name lines)

with_lines-last : (more : List WrittenLine) (zones : List WrittenZone) (name : List ℕ) (lines : List WrittenLine) → with_lines more (zones ++ record { name = name; lines = lines } ∷ []) ≡ zones ++ record { name = name; lines = lines ++ more } ∷ []
with_lines-last [] zones name lines =
    ap (λ it. zones ++ record { name = name; lines = it } ∷ []) (sym (append-nil lines))
with_lines-last (line ∷ more) zones name lines =
    ap (with_lines more) (with_line-last line zones name lines) ∙ with_lines-last more zones name (lines ++ line ∷ []) ∙ ap (λ it. zones ++ record { name = name; lines = it } ∷ []) (append_assoc lines (line ∷ []) more)

zones_after-said : (zones : List WrittenZone) (records : List Record) → zones_after zones records ≡ with_lines (continued records) zones ++ zones_said records
zones_after-said zones [] = sym (append-nil zones)
zones_after-said zones (RuleRecord name rule ∷ records) = zones_after-said zones records
zones_after-said zones (ZoneRecord name line ∷ records) =
    let own : WrittenZone = record { name = name; lines = line ∷ [] } in
    zones_after-said (zones ++ own ∷ []) records ∙ ap (λ it. it ++ zones_said records) (with_lines-last (continued records) zones name (line ∷ [])) ∙ append_assoc zones (record { name = name; lines = line ∷ continued records } ∷ []) (zones_said records)
zones_after-said zones (Continuation line ∷ records) = zones_after-said (with_line line zones) records
zones_after-said zones (LinkRecord link ∷ records) = zones_after-said zones records

zones_after-none : (records : List Record) → zones_after [] records ≡ zones_said records
zones_after-none records =
    zones_after-said [] records ∙ ap (λ it. it ++ zones_said records) (with_lines-none (continued records))

-- ---- lines, and then files

cons_then : {A : Type 0} (first : Option A) (later : List A) → cons_option first [] ++ later ≡ cons_option first later
cons_then None later = refl
cons_then (Some x) later = refl

-- one more, and then the others
one_then : {A : Type 0} (before between after : List A) (said : Option A) (later : List A) → between ≡ before ++ cons_option said [] → after ≡ between ++ later → after ≡ before ++ cons_option said later
one_then before between after said later step rest =
    rest ∙ ap (λ it. it ++ later) step ∙ append_assoc before (cons_option said []) later ∙ ap (λ it. before ++ it) (cons_then said later)

-- what was said so far, and what lines say
record Gives (number : ℕ) (contents final : Contents) (records : List Record) : Type 0 where
  rules : (wanted : List ℕ) → rules_in wanted final.sets ≡ rules_in wanted contents.sets ++ filter_map (rule_named wanted) records
  links : final.links ≡ contents.links ++ filter_map link_said records
  zones : final.zones ≡ zones_after contents.zones records

-- the records of a line and those behind it, by what the line says
abbrev records_by : Contents → ℕ → List (List ℕ) → Result (Option Record) Cause → List Record
records_by contents number lines (Ok None) = records_after contents (number + 1) lines
records_by contents number lines (Ok (Some said)) = said ∷ records_after (with_record said contents) (number + 1) lines
records_by contents number lines (Err cause) = []

records_are : (contents : Contents) (number : ℕ) (line : List ℕ) (lines : List (List ℕ)) (said : Result (Option Record) Cause) → line_says contents number line ≡ said → records_after contents number (line ∷ lines) ≡ records_by contents number lines said
unfolding records_after
records_are contents number line lines (Ok None) is = rw (records_after, is) refl
records_are contents number line lines (Ok (Some said)) is = rw (records_after, is) refl
records_are contents number line lines (Err cause) is = rw (records_after, is) refl

by_line : (contents final : Contents) (number : ℕ) (line : List ℕ) (lines : List (List ℕ)) (said : Result (Option Record) Cause) → line_says contents number line ≡ said → given_by contents number lines said ≡ Ok final → GoodContents number contents → ((next : Contents) → GoodContents (number + 1) next → contents_after next (number + 1) lines ≡ Ok final → Gives (number + 1) next final (records_after next (number + 1) lines)) → Gives number contents final (records_by contents number lines said)
by_line contents final number line lines (Ok None) e given good next =
    let later = next contents (said_good number contents line None good e) given in
    record { rules = later.rules; links = later.links; zones = later.zones }
by_line contents final number line lines (Ok (Some said)) e given good next =
    let between = with_record said contents in
    let records = records_after between (number + 1) lines in
    let later = next between (said_good number contents line (Some said) good e) given in
    record {
      rules = λ wanted. one_then (rules_in wanted contents.sets) (rules_in wanted between.sets) (rules_in wanted final.sets) (rule_named wanted said) (filter_map (rule_named wanted) records) (rules_said wanted said contents good.sets_ascend) (later.rules wanted);
      links = one_then contents.links between.links final.links (link_said said) (filter_map link_said records) (links_said said contents) later.links;
      zones = later.zones ∙ ap (λ it. zones_after it records) (zones_with said contents);
    }
by_line contents final number line lines (Err cause) e given good next = cc

lines_give : (contents final : Contents) (number : ℕ) (lines : List (List ℕ)) → GoodContents number contents → contents_after contents number lines ≡ Ok final → Gives number contents final (records_after contents number lines)
unfolding records_after
lines_give contents final number [] good given =
    let same : contents ≡ final = cc (after_all contents number) in
    record {
      rules = λ wanted. ap (λ (it : Contents). rules_in wanted it.sets) (sym same) ∙ sym (append-nil (rules_in wanted contents.sets));
      links = ap (λ (it : Contents). it.links) (sym same) ∙ sym (append-nil contents.links);
      zones = ap (λ (it : Contents). it.zones) (sym same);
    }
lines_give contents final number (line ∷ lines) good given =
    let says = line_says contents number line in
    let gives = by_line contents final number line lines says refl (sym (after_line contents number line lines) ∙ given) good (λ next good given. lines_give next final (number + 1) lines good given) in
    subst (Gives number contents final) (sym (records_are contents number line lines says refl)) gives

-- what is said in a file, and then in the others
more_then : {A : Type 0} (before between after here there : List A) → between ≡ before ++ here → after ≡ between ++ there → after ≡ before ++ (here ++ there)
more_then before between after here there step rest =
    rest ∙ ap (λ it. it ++ there) step ∙ append_assoc before here there

-- the records of a file and those behind it, by what the file gives
abbrev records_with : Contents → ℕ → List ℕ → List (List ℕ) → Result Contents LineFault → List Record
records_with contents number file files (Ok after) =
    records_after contents number (lines_of file) ++ records_over (at_end_of_file after) (number + length (lines_of file)) files
records_with contents number file files (Err fault) = []

records_next : (contents : Contents) (number : ℕ) (file : List ℕ) (files : List (List ℕ)) (outcome : Result Contents LineFault) → contents_after contents number (lines_of file) ≡ outcome → records_over contents number (file ∷ files) ≡ records_with contents number file files outcome
unfolding records_over
records_next contents number file files (Ok after) is = rw (records_over, is) refl
records_next contents number file files (Err fault) is = rw (records_over, is) refl

by_file : (contents final : Contents) (number : ℕ) (file : List ℕ) (files : List (List ℕ)) (outcome : Result Contents LineFault) → contents_after contents number (lines_of file) ≡ outcome → files_after (number + length (lines_of file)) files outcome ≡ Ok final → GoodContents number contents → ((next : Contents) → GoodContents (number + length (lines_of file)) next → contents_over next (number + length (lines_of file)) files ≡ Ok final → Gives (number + length (lines_of file)) next final (records_over next (number + length (lines_of file)) files)) → Gives number contents final (records_with contents number file files outcome)
by_file contents final number file files (Ok after) e given good next =
    let behind = number + length (lines_of file) in
    let ends = at_end_of_file after in
    let here = records_after contents number (lines_of file) in
    let there = records_over ends behind files in
    let first = lines_give contents after number (lines_of file) good e in
    let later = next ends (ended behind after (contents_good (lines_of file) number contents after good e)) given in
    record {
      rules = λ wanted. more_then (rules_in wanted contents.sets) (rules_in wanted after.sets) (rules_in wanted final.sets) (filter_map (rule_named wanted) here) (filter_map (rule_named wanted) there) (first.rules wanted) (later.rules wanted) ∙ ap (λ it. rules_in wanted contents.sets ++ it) (sym (filter_map-append (rule_named wanted) here there));
      links = more_then contents.links after.links final.links (filter_map link_said here) (filter_map link_said there) first.links later.links ∙ ap (λ it. contents.links ++ it) (sym (filter_map-append link_said here there));
      zones = later.zones ∙ ap (λ it. zones_after it there) first.zones ∙ sym (zones_after-append contents.zones here there);
    }
by_file contents final number file files (Err fault) e given good next = cc

over_give : (contents final : Contents) (number : ℕ) (files : List (List ℕ)) → GoodContents number contents → contents_over contents number files ≡ Ok final → Gives number contents final (records_over contents number files)
unfolding records_over
over_give contents final number [] good given =
    let same : contents ≡ final = cc (over_all contents number) in
    record {
      rules = λ wanted. ap (λ (it : Contents). rules_in wanted it.sets) (sym same) ∙ sym (append-nil (rules_in wanted contents.sets));
      links = ap (λ (it : Contents). it.links) (sym same) ∙ sym (append-nil contents.links);
      zones = ap (λ (it : Contents). it.zones) (sym same);
    }
over_give contents final number (file ∷ files) good given =
    let outcome = contents_after contents number (lines_of file) in
    let gives = by_file contents final number file files outcome refl (sym (after_file contents number file files) ∙ given) good (λ next good given. over_give next final (number + length (lines_of file)) files good given) in
    subst (Gives number contents final) (sym (records_next contents number file files outcome refl)) gives

files_give : (files : List (List ℕ)) (contents : Contents) → contents_of files ≡ Ok contents → Gives 1 no_contents contents (records_of files)
files_give files contents given =
    over_give no_contents contents 1 files none_good (sym (files_from_none files) ∙ given)

pub rules_of_records : (files : List (List ℕ)) (contents : Contents) (name : List ℕ) → contents_of files ≡ Ok contents → rules_in name contents.sets ≡ filter_map (rule_named name) (records_of files)
rules_of_records files contents name given = (files_give files contents given).rules name

pub links_of_records : (files : List (List ℕ)) (contents : Contents) → contents_of files ≡ Ok contents → contents.links ≡ filter_map link_said (records_of files)
links_of_records files contents given = (files_give files contents given).links

pub zones_of_records : (files : List (List ℕ)) (contents : Contents) → contents_of files ≡ Ok contents → contents.zones ≡ zones_said (records_of files)
zones_of_records files contents given =
    (files_give files contents given).zones ∙ zones_after-none (records_of files)
