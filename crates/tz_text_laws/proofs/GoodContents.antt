-- What the lines of a text give keeps its ranges, orders and counts.
use Rattle.std.proofs.Common.{◌≡◌, ℕ, zero, suc, ◌+◌, ◌<◌, ◌≤◌, Bool, true, false, not, ◌&&◌, ◌||◌, nat_le, nat_lt, IsTrue, List, [], ◌∷◌, ◌++◌, length, map, find, drop, Option, Some, None, slice_get, Result, Ok, Err, refl, sym, ap, ◌∙◌, ⊎_elim, arith, subst, length-append}
use Rattle.std.proofs.lemmas.Bool.{cases_Bool}
use Rattle.std.proofs.lemmas.Bool.Decides.{nat_tests}
use Rattle.tz_types.specs.Order.{ascends, ascends_after, name_before}
use Rattle.tz_types.specs.declared.limit.TheConstants.{MOST_RULES, MOST_SETS, MOST_ZONES, MOST_LINKS, LONGEST_FORMAT}
use Rattle.tz_types.specs.declared.cause.Cause.{Cause}
use Rattle.tz_types.specs.declared.cause.Cause.TheVariants as causes
use Rattle.tz_types.specs.declared.fault.LineFault.{LineFault}
use Rattle.tz_specs.specs.Line.{lines_of}
use Rattle.tz_specs.specs.Field.{fields_of}
use Rattle.tz_specs.specs.Causes.{least_cause, unless_cause, fault_at}
use Rattle.tz_specs.specs.LineCauses.{opening_causes, number_causes}
use Rattle.tz_specs.specs.Value.{field_at, fall, years_of, is_bad_name, is_long_name, names_set}
use Rattle.tz_specs.specs.Written.{WrittenRule, WrittenSet, WrittenLine, WrittenZone, WrittenLink, Record, RuleRecord, ZoneRecord, Continuation, LinkRecord}
use Rattle.tz_specs.specs.Record.{Kind, RuleLine, ZoneLine, LinkLine, ContinuationLine, kind_of_record, has_count, rule_of, rule_causes, line_of, line_causes, link_of, link_causes, record_of}
use Rattle.tz_specs.specs.Contents.{Contents, no_contents, is_set_named, with_rule, with_line, with_record, waits, is_full_set, exceeds_rules, exceeds_zones, exceeds_lines, exceeds_links, record_causes, kind_causes, field_causes, fields_or_none, causes_of_line, record_of_fields, line_says, with_said, contents_after, at_end_of_file, contents_over, contents_of}
use Rattle.tz_specs.proofs.AscendingLemmas.{both_hold, never_before_itself, before_later, ascends_later}
use Rattle.tz_text_laws.proofs.Choices.{bind_some, map_some, some_same}
use Rattle.tz_text_laws.proofs.Names.{same_name, or_before}
use Rattle.tz_text_laws.proofs.Good.{GoodRule, GoodLine, rule_good, line_good}

abbrev pub GoodRules : ℕ → List WrittenRule → Type 0
GoodRules number [] = Unit {0}
GoodRules number (rule ∷ rules) = GoodRule rule × (rule.line < number) × GoodRules number rules

pub record GoodSet (number : ℕ) (set : WrittenSet) : Type 0 where
  pub rules : GoodRules number set.rules
  pub rise : IsTrue (ascends nat_lt (map (λ rule. rule.line) set.rules))
  pub few : length set.rules ≤ MOST_RULES

abbrev pub GoodSets : ℕ → List WrittenSet → Type 0
GoodSets number [] = Unit {0}
GoodSets number (set ∷ sets) = GoodSet number set × GoodSets number sets

abbrev pub GoodLines : List WrittenLine → Type 0
GoodLines [] = Unit {0}
GoodLines (line ∷ lines) = GoodLine line × GoodLines lines

-- where a zone begins, which has a line
abbrev pub begins : WrittenZone → ℕ
begins zone = begin_of zone.lines
  where
    begin_of : List WrittenLine → ℕ
    begin_of [] = 0
    begin_of (line ∷ lines) = line.line

abbrev pub has_line : WrittenZone → Bool
has_line zone = some_line zone.lines
  where
    some_line : List WrittenLine → Bool
    some_line [] = false
    some_line (line ∷ lines) = true

-- all numbers lie below this one
abbrev pub AllBelow : ℕ → List ℕ → Type 0
AllBelow number [] = Unit {0}
AllBelow number (x ∷ xs) = (x < number) × AllBelow number xs

abbrev pub lines_at : List WrittenLine → List ℕ
lines_at lines = map (λ line. line.line) lines

pub record GoodZone (number : ℕ) (zone : WrittenZone) : Type 0 where
  pub lines : GoodLines zone.lines
  pub begun : IsTrue (has_line zone)
  pub before : begins zone < number
  pub rise : IsTrue (ascends nat_lt (lines_at zone.lines))
  pub below : AllBelow number (lines_at zone.lines)

abbrev pub GoodZones : ℕ → List WrittenZone → Type 0
GoodZones number [] = Unit {0}
GoodZones number (zone ∷ zones) = GoodZone number zone × GoodZones number zones

abbrev pub GoodLinks : ℕ → List WrittenLink → Type 0
GoodLinks number [] = Unit {0}
GoodLinks number (link ∷ links) = (link.line < number) × GoodLinks number links

pub record GoodContents (number : ℕ) (contents : Contents) : Type 0 where
  pub sets : GoodSets number contents.sets
  pub sets_ascend : IsTrue (ascends name_before (map (λ set. set.name) contents.sets))
  pub few_sets : length contents.sets ≤ MOST_SETS
  pub zones : GoodZones number contents.zones
  pub zones_rise : IsTrue (ascends nat_lt (map begins contents.zones))
  pub few_zones : length contents.zones ≤ MOST_ZONES
  pub links : GoodLinks number contents.links
  pub links_rise : IsTrue (ascends nat_lt (map (λ link. link.line) contents.links))
  pub few_links : length contents.links ≤ MOST_LINKS

-- the next line comes later

later_rules : (number : ℕ) (rules : List WrittenRule) → GoodRules number rules → GoodRules (number + 1) rules
later_rules number [] h = tt
later_rules number (rule ∷ rules) h =
    let before = h.1 in (h.0, omega (arith, before), later_rules number rules h.2)

later_set : (number : ℕ) (set : WrittenSet) → GoodSet number set → GoodSet (number + 1) set
later_set number set h = record { rules = later_rules number set.rules h.rules; rise = h.rise; few = h.few }

later_sets : (number : ℕ) (sets : List WrittenSet) → GoodSets number sets → GoodSets (number + 1) sets
later_sets number [] h = tt
later_sets number (set ∷ sets) h = (later_set number set h.0, later_sets number sets h.1)

later_below : (number : ℕ) (xs : List ℕ) → AllBelow number xs → AllBelow (number + 1) xs
later_below number [] h = tt
later_below number (x ∷ xs) h = let before = h.0 in (omega (arith, before), later_below number xs h.1)

later_zone : (number : ℕ) (zone : WrittenZone) → GoodZone number zone → GoodZone (number + 1) zone
later_zone number zone h =
    let before = h.before in record { lines = h.lines; begun = h.begun; before = omega (arith, before); rise = h.rise; below = later_below number (lines_at zone.lines) h.below }

later_zones : (number : ℕ) (zones : List WrittenZone) → GoodZones number zones → GoodZones (number + 1) zones
later_zones number [] h = tt
later_zones number (zone ∷ zones) h = (later_zone number zone h.0, later_zones number zones h.1)

later_links : (number : ℕ) (links : List WrittenLink) → GoodLinks number links → GoodLinks (number + 1) links
later_links number [] h = tt
later_links number (link ∷ links) h = let before = h.0 in (omega (arith, before), later_links number links h.1)

pub later_contents : (number : ℕ) (contents : Contents) → GoodContents number contents → GoodContents (number + 1) contents
later_contents number contents h =
    record {
      sets = later_sets number contents.sets h.sets;
      sets_ascend = h.sets_ascend;
      few_sets = h.few_sets;
      zones = later_zones number contents.zones h.zones;
      zones_rise = h.zones_rise;
      few_zones = h.few_zones;
      links = later_links number contents.links h.links;
      links_rise = h.links_rise;
      few_links = h.few_links;
    }

-- numbers that rise, and one above all of them

rise_after : (x : ℕ) (xs : List ℕ) (number : ℕ) → x < number → AllBelow number xs → IsTrue (ascends_after nat_lt x xs) → IsTrue (ascends_after nat_lt x (xs ++ number ∷ []))
rise_after x [] number below all h = let is : IsTrue (nat_lt x number) = grind (arith, nat_tests, below) in rw is refl
rise_after x (y ∷ ys) number below all h =
    let both = both_hold (nat_lt x y) (ascends_after nat_lt y ys) h in
    rw both.0 (rise_after y ys number all.0 all.1 both.1)

pub rise_on : (xs : List ℕ) (number : ℕ) → AllBelow number xs → IsTrue (ascends nat_lt xs) → IsTrue (ascends nat_lt (xs ++ number ∷ []))
rise_on [] number all h = refl
rise_on (x ∷ xs) number all h = rise_after x xs number all.0 all.1 h

map_append : {X Y : Type 0} (f : X → Y) (xs ys : List X) → map f (xs ++ ys) ≡ map f xs ++ map f ys
map_append f [] ys = refl
map_append f (x ∷ xs) ys = ap (λ it. f x ∷ it) (map_append f xs ys)

rules_below : (number : ℕ) (rules : List WrittenRule) → GoodRules number rules → AllBelow number (map (λ rule. rule.line) rules)
rules_below number [] h = tt
rules_below number (rule ∷ rules) h = (h.1, rules_below number rules h.2)

zones_below : (number : ℕ) (zones : List WrittenZone) → GoodZones number zones → AllBelow number (map begins zones)
zones_below number [] h = tt
zones_below number (zone ∷ zones) h = (h.0.before, zones_below number zones h.1)

links_below : (number : ℕ) (links : List WrittenLink) → GoodLinks number links → AllBelow number (map (λ link. link.line) links)
links_below number [] h = tt
links_below number (link ∷ links) h = (h.0, links_below number links h.1)

-- one more rule

rules_with : (number : ℕ) (rules : List WrittenRule) (rule : WrittenRule) → GoodRules number rules → GoodRule rule → rule.line ≡ number → GoodRules (number + 1) (rules ++ rule ∷ [])
rules_with number [] rule h good is = (good, omega (arith, is), tt)
rules_with number (first ∷ rules) rule h good is =
    let before = h.1 in (h.0, omega (arith, before), rules_with number rules rule h.2 good is)

set_with : (number : ℕ) (set : WrittenSet) (name : List ℕ) (rule : WrittenRule) → GoodSet number set → GoodRule rule → rule.line ≡ number → length set.rules < MOST_RULES → GoodSet (number + 1) (record { name = name; rules = set.rules ++ rule ∷ [] })
set_with number set name rule h good is room =
    let rise = rise_on (map (λ rule. rule.line) set.rules) number (rules_below number set.rules h.rules) h.rise in
    let lines : map (λ (it : WrittenRule). it.line) (set.rules ++ rule ∷ []) ≡ map (λ (it : WrittenRule). it.line) set.rules ++ number ∷ [] =
    map_append (λ (it : WrittenRule). it.line) set.rules (rule ∷ []) ∙ ap (λ n. map (λ (it : WrittenRule). it.line) set.rules ++ n ∷ []) is in
    let count : length (set.rules ++ rule ∷ []) ≡ length set.rules + 1 = length-append set.rules (rule ∷ []) in
    record { rules = rules_with number set.rules rule h.rules good is; rise = rw lines rise; few = omega (arith, room, count) }

first_rule : (number : ℕ) (name : List ℕ) (rule : WrittenRule) → GoodRule rule → rule.line ≡ number → GoodSet (number + 1) (record { name = name; rules = rule ∷ [] })
first_rule number name rule good is = record { rules = (good, omega (arith, is), tt); rise = refl; few = omega arith }

-- a set in its place keeps the names in order
names_after : (x name : List ℕ) (rule : WrittenRule) (sets : List WrittenSet) → IsTrue (ascends_after name_before x (map (λ set. set.name) sets)) → IsTrue (name_before x name) → IsTrue (ascends_after name_before x (map (λ set. set.name) (with_rule name rule sets)))
names_after x name rule [] h first = rw first refl
names_after x name rule (set ∷ sets) h first =
    let both = both_hold (name_before x set.name) (ascends_after name_before set.name (map (λ (it : WrittenSet). it.name) sets)) h in
    ⊎_elim (λ (named : is_set_named name set ≡ true).
    let same = same_name set.name name named in
    rw (named, first) (subst (λ it. IsTrue (ascends_after name_before it (map (λ (it : WrittenSet). it.name) sets))) same both.1))
    (λ (other : is_set_named name set ≡ false).
    ⊎_elim (λ (before : name_before name set.name ≡ true). rw (other, before, first, before) both.1)
    (λ (after : name_before name set.name ≡ false).
    rw (other, after, both.0) (names_after set.name name rule sets both.1 (or_before name set.name after other)))
    (cases_Bool (name_before name set.name)))
    (cases_Bool (is_set_named name set))

names_with : (name : List ℕ) (rule : WrittenRule) (sets : List WrittenSet) → IsTrue (ascends name_before (map (λ set. set.name) sets)) → IsTrue (ascends name_before (map (λ set. set.name) (with_rule name rule sets)))
names_with name rule [] h = refl
names_with name rule (set ∷ sets) h =
    ⊎_elim (λ (named : is_set_named name set ≡ true).
    let same = same_name set.name name named in
    rw named (subst (λ it. IsTrue (ascends_after name_before it (map (λ (it : WrittenSet). it.name) sets))) same h))
    (λ (other : is_set_named name set ≡ false).
    ⊎_elim (λ (before : name_before name set.name ≡ true). rw (other, before, before) h)
    (λ (after : name_before name set.name ≡ false).
    rw (other, after) (names_after set.name name rule sets h (or_before name set.name after other)))
    (cases_Bool (name_before name set.name)))
    (cases_Bool (is_set_named name set))

-- a name before all isn't found
not_found : (x name : List ℕ) (sets : List WrittenSet) → IsTrue (ascends_after name_before x (map (λ set. set.name) sets)) → IsTrue (name_before name x) → find (is_set_named name) sets ≡ None
not_found x name [] h before = refl
not_found x name (set ∷ sets) h before =
    let both = both_hold (name_before x set.name) (ascends_after name_before set.name (map (λ (it : WrittenSet). it.name) sets)) h in
    let further = before_later name x set.name before both.0 in
    ⊎_elim (λ (named : is_set_named name set ≡ true).
    let same = same_name set.name name named in
    absurd (never_before_itself name (subst (λ it. IsTrue (name_before name it)) same further)))
    (λ (other : is_set_named name set ≡ false). rw other (not_found set.name name sets both.1 further))
    (cases_Bool (is_set_named name set))

-- there is room for one more rule of a set, or for one more set
abbrev Room : ℕ → Option WrittenSet → Type 0
Room sets None = sets < MOST_SETS
Room sets (Some set) = (sets ≤ MOST_SETS) × (length set.rules < MOST_RULES)

rule_room : (set : WrittenSet) (sets : List WrittenSet) (name : List ℕ) → is_set_named name set ≡ true → (count : ℕ) → Room count (find (is_set_named name) (set ∷ sets)) → length set.rules < MOST_RULES
rule_room set sets name named count room = let here : Room count (Some set) = rw named at room in here.1

room_later : (set : WrittenSet) (sets : List WrittenSet) (name : List ℕ) → is_set_named name set ≡ false → (count : ℕ) → Room count (find (is_set_named name) (set ∷ sets)) → Room count (find (is_set_named name) sets)
room_later set sets name other count room = rw other at room

sets_with : (number count : ℕ) (name : List ℕ) (rule : WrittenRule) (sets : List WrittenSet) → GoodSets number sets → GoodRule rule → rule.line ≡ number → Room count (find (is_set_named name) sets) → GoodSets (number + 1) (with_rule name rule sets)
sets_with number count name rule [] h good is room = (first_rule number name rule good is, tt)
sets_with number count name rule (set ∷ sets) h good is room =
    ⊎_elim (λ (named : is_set_named name set ≡ true).
    rw named (set_with number set name rule h.0 good is (rule_room set sets name named count room), later_sets number sets h.1))
    (λ (other : is_set_named name set ≡ false).
    ⊎_elim (λ (before : name_before name set.name ≡ true).
    rw (other, before) (first_rule number name rule good is, (later_set number set h.0, later_sets number sets h.1)))
    (λ (after : name_before name set.name ≡ false).
    rw (other, after) (later_set number set h.0, sets_with number count name rule sets h.1 good is (room_later set sets name other count room)))
    (cases_Bool (name_before name set.name)))
    (cases_Bool (is_set_named name set))

at_most_one_more : (name : List ℕ) (rule : WrittenRule) (sets : List WrittenSet) → length (with_rule name rule sets) ≤ length sets + 1
at_most_one_more name rule [] = omega arith
at_most_one_more name rule (set ∷ sets) =
    ⊎_elim (λ (named : is_set_named name set ≡ true). rw named (omega arith))
    (λ (other : is_set_named name set ≡ false).
    ⊎_elim (λ (before : name_before name set.name ≡ true). rw (other, before) (omega arith))
    (λ (after : name_before name set.name ≡ false).
    let later = at_most_one_more name rule sets in rw (other, after) (omega (arith, later)))
    (cases_Bool (name_before name set.name)))
    (cases_Bool (is_set_named name set))

no_more : (name : List ℕ) (rule : WrittenRule) (sets : List WrittenSet) (found : WrittenSet) → IsTrue (ascends name_before (map (λ set. set.name) sets)) → find (is_set_named name) sets ≡ Some found → length (with_rule name rule sets) ≡ length sets
no_more name rule [] found h there = absurd (cc)
no_more name rule (set ∷ sets) found h there =
    ⊎_elim (λ (named : is_set_named name set ≡ true). rw named refl)
    (λ (other : is_set_named name set ≡ false).
    let later : find (is_set_named name) sets ≡ Some found = rw other at there in
    ⊎_elim (λ (before : name_before name set.name ≡ true).
    let none = not_found set.name name sets h before in
    let bad : None ≡ Some found = sym none ∙ later in absurd (cc))
    (λ (after : name_before name set.name ≡ false).
    let more = no_more name rule sets found (ascends_later (λ (it : WrittenSet). it.name) set sets h) later in
    rw (other, after) (ap suc more))
    (cases_Bool (name_before name set.name)))
    (cases_Bool (is_set_named name set))

few_with : (name : List ℕ) (rule : WrittenRule) (sets : List WrittenSet) (found : Option WrittenSet) → IsTrue (ascends name_before (map (λ set. set.name) sets)) → find (is_set_named name) sets ≡ found → Room (length sets) found → length (with_rule name rule sets) ≤ MOST_SETS
few_with name rule sets None h is room = let more = at_most_one_more name rule sets in omega (arith, more, room)
few_with name rule sets (Some found) h is room =
    let same = no_more name rule sets found h is in
    let few = room.0 in
    omega (arith, same, few)

-- one more zone, one more line of the last zone, and one more link

lines_with : (lines : List WrittenLine) (line : WrittenLine) → GoodLines lines → GoodLine line → GoodLines (lines ++ line ∷ [])
lines_with [] line h good = (good, tt)
lines_with (first ∷ lines) line h good = (h.0, lines_with lines line h.1 good)

zones_with : (number : ℕ) (zones : List WrittenZone) (zone : WrittenZone) → GoodZones number zones → GoodZone (number + 1) zone → GoodZones (number + 1) (zones ++ zone ∷ [])
zones_with number [] zone h good = (good, tt)
zones_with number (first ∷ zones) zone h good = (later_zone number first h.0, zones_with number zones zone h.1 good)

first_line : (number : ℕ) (name : List ℕ) (line : WrittenLine) → GoodLine line → line.line ≡ number → GoodZone (number + 1) (record { name = name; lines = line ∷ [] })
first_line number name line good is = record { lines = (good, tt); begun = refl; before = omega (arith, is); rise = refl; below = (omega (arith, is), tt) }

begins_same : (lines : List WrittenLine) (line : WrittenLine) (name : List ℕ) → IsTrue (has_line (record { name = name; lines = lines })) → begins (record { name = name; lines = lines ++ line ∷ [] }) ≡ begins (record { name = name; lines = lines })
begins_same [] line name h = absurd (cc)
begins_same (first ∷ lines) line name h = refl

still_line : (lines : List WrittenLine) (line : WrittenLine) (name : List ℕ) → IsTrue (has_line (record { name = name; lines = lines ++ line ∷ [] }))
still_line [] line name = refl
still_line (first ∷ lines) line name = refl

below_with : (number : ℕ) (xs : List ℕ) → AllBelow number xs → AllBelow (number + 1) (xs ++ number ∷ [])
below_with number [] h = (omega arith, tt)
below_with number (x ∷ xs) h = let before = h.0 in (omega (arith, before), below_with number xs h.1)

longer_zone : (number : ℕ) (zone : WrittenZone) (line : WrittenLine) → GoodZone number zone → GoodLine line → line.line ≡ number → GoodZone (number + 1) (record { name = zone.name; lines = zone.lines ++ line ∷ [] })
longer_zone number zone line h good is =
    let places : lines_at (zone.lines ++ line ∷ []) ≡ lines_at zone.lines ++ number ∷ [] =
    map_append (λ (it : WrittenLine). it.line) zone.lines (line ∷ []) ∙ ap (λ n. lines_at zone.lines ++ n ∷ []) is in
    let same = begins_same zone.lines line zone.name h.begun in
    let before = h.before in
    record { lines = lines_with zone.lines line h.lines good; begun = still_line zone.lines line zone.name; before = omega (arith, same, before); rise = rw places (rise_on (lines_at zone.lines) number h.below h.rise); below = rw places (below_with number (lines_at zone.lines) h.below) }

with_line_good : (number : ℕ) (zones : List WrittenZone) (line : WrittenLine) → GoodZones number zones → GoodLine line → line.line ≡ number → GoodZones (number + 1) (with_line line zones)
with_line_good number [] line h good is = tt
with_line_good number (zone ∷ []) line h good is = (longer_zone number zone line h.0 good is, tt)
with_line_good number (zone ∷ next ∷ zones) line h good is = (later_zone number zone h.0, with_line_good number (next ∷ zones) line h.1 good is)

with_line_begins : (number : ℕ) (zones : List WrittenZone) (line : WrittenLine) → GoodZones number zones → map begins (with_line line zones) ≡ map begins zones
with_line_begins number [] line h = refl
with_line_begins number (zone ∷ []) line h = ap (λ n. n ∷ []) (begins_same zone.lines line zone.name h.0.begun)
with_line_begins number (zone ∷ next ∷ zones) line h = ap (λ it. begins zone ∷ it) (with_line_begins number (next ∷ zones) line h.1)

with_line_count : (zones : List WrittenZone) (line : WrittenLine) → length (with_line line zones) ≡ length zones
with_line_count [] line = refl
with_line_count (zone ∷ []) line = refl
with_line_count (zone ∷ next ∷ zones) line = ap suc (with_line_count (next ∷ zones) line)

links_with : (number : ℕ) (links : List WrittenLink) (link : WrittenLink) → GoodLinks number links → link.line ≡ number → GoodLinks (number + 1) (links ++ link ∷ [])
links_with number [] link h is = (omega (arith, is), tt)
links_with number (first ∷ links) link h is = let before = h.0 in (omega (arith, before), links_with number links link h.1 is)

-- what one more record may be
abbrev GoodRecord : ℕ → Contents → Record → Type 0
GoodRecord number contents (RuleRecord name rule) =
    GoodRule rule × (rule.line ≡ number) × Room (length contents.sets) (find (is_set_named name) contents.sets)
GoodRecord number contents (ZoneRecord name line) = GoodLine line × (line.line ≡ number) × (length contents.zones < MOST_ZONES)
GoodRecord number contents (Continuation line) = GoodLine line × (line.line ≡ number)
GoodRecord number contents (LinkRecord link) = (link.line ≡ number) × (length contents.links < MOST_LINKS)

good_with : (number : ℕ) (contents : Contents) (entry : Record) → GoodContents number contents → GoodRecord number contents entry → GoodContents (number + 1) (with_record entry contents)
good_with number contents (RuleRecord name rule) h good =
    record {
      sets = sets_with number (length contents.sets) name rule contents.sets h.sets good.0 good.1 good.2;
      sets_ascend = names_with name rule contents.sets h.sets_ascend;
      few_sets = few_with name rule contents.sets (find (is_set_named name) contents.sets) h.sets_ascend refl good.2;
      zones = later_zones number contents.zones h.zones;
      zones_rise = h.zones_rise;
      few_zones = h.few_zones;
      links = later_links number contents.links h.links;
      links_rise = h.links_rise;
      few_links = h.few_links;
    }
good_with number contents (ZoneRecord name line) h good =
    let is = good.1 in
    let room = good.2 in
    let rise = rise_on (map begins contents.zones) number (zones_below number contents.zones h.zones) h.zones_rise in
    let places : map begins (contents.zones ++ record { name = name; lines = line ∷ [] } ∷ []) ≡ map begins contents.zones ++ number ∷ [] =
    map_append begins contents.zones (record { name = name; lines = line ∷ [] } ∷ []) ∙ ap (λ n. map begins contents.zones ++ n ∷ []) is in
    let count : length (contents.zones ++ record { name = name; lines = line ∷ [] } ∷ []) ≡ length contents.zones + 1 = length-append contents.zones (record { name = name; lines = line ∷ [] } ∷ []) in
    record {
      sets = later_sets number contents.sets h.sets;
      sets_ascend = h.sets_ascend;
      few_sets = h.few_sets;
      zones = zones_with number contents.zones (record { name = name; lines = line ∷ [] }) h.zones (first_line number name line good.0 is);
      zones_rise = rw places rise;
      few_zones = omega (arith, count, room);
      links = later_links number contents.links h.links;
      links_rise = h.links_rise;
      few_links = h.few_links;
    }
good_with number contents (Continuation line) h good =
    record {
      sets = later_sets number contents.sets h.sets;
      sets_ascend = h.sets_ascend;
      few_sets = h.few_sets;
      zones = with_line_good number contents.zones line h.zones good.0 good.1;
      zones_rise = rw (with_line_begins number contents.zones line h.zones) h.zones_rise;
      few_zones = rw (with_line_count contents.zones line) h.few_zones;
      links = later_links number contents.links h.links;
      links_rise = h.links_rise;
      few_links = h.few_links;
    }
good_with number contents (LinkRecord link) h good =
    let is = good.0 in
    let room = good.1 in
    let rise = rise_on (map (λ (it : WrittenLink). it.line) contents.links) number (links_below number contents.links h.links) h.links_rise in
    let places : map (λ (it : WrittenLink). it.line) (contents.links ++ link ∷ []) ≡ map (λ (it : WrittenLink). it.line) contents.links ++ number ∷ [] =
    map_append (λ (it : WrittenLink). it.line) contents.links (link ∷ []) ∙ ap (λ n. map (λ (it : WrittenLink). it.line) contents.links ++ n ∷ []) is in
    let count : length (contents.links ++ link ∷ []) ≡ length contents.links + 1 = length-append contents.links (link ∷ []) in
    record {
      sets = later_sets number contents.sets h.sets;
      sets_ascend = h.sets_ascend;
      few_sets = h.few_sets;
      zones = later_zones number contents.zones h.zones;
      zones_rise = h.zones_rise;
      few_zones = h.few_zones;
      links = links_with number contents.links link h.links is;
      links_rise = rw places rise;
      few_links = omega (arith, count, room);
    }

-- Where a line says something, it has no cause.

peel : (row : Cause × Bool) (rows : List (Cause × Bool)) → least_cause (row ∷ rows) ≡ None → (row.1 ≡ false) × (least_cause rows ≡ None)
peel row rows h =
    ⊎_elim (λ (holds : row.1 ≡ true). let bad : Some row.0 ≡ None = rw holds at h in absurd (cc))
    (λ (none : row.1 ≡ false). (none, rw none at h))
    (cases_Bool row.1)

-- no row of causes holds where none is told
none_holds : (rows : List (Cause × Bool)) → least_cause rows ≡ None → (place : ℕ) (row : Cause × Bool) → slice_get rows place ≡ Some row → row.1 ≡ false
none_holds [] h place row is = absurd (cc)
none_holds (first ∷ rows) h zero row is =
    let same = some_same first row is in
    subst (λ it. it.1 ≡ false) same (peel first rows h).0
none_holds (first ∷ rows) h (suc place) row is = none_holds rows (peel first rows h).1 place row is

peel_front : (rows others : List (Cause × Bool)) → least_cause (rows ++ others) ≡ None → least_cause rows ≡ None
peel_front [] others h = refl
peel_front (row ∷ rows) others h =
    let first = peel row (rows ++ others) h in
    rw first.0 (peel_front rows others first.1)

peel_back : (rows others : List (Cause × Bool)) → least_cause (rows ++ others) ≡ None → least_cause others ≡ None
peel_back [] others h = h
peel_back (row ∷ rows) others h = peel_back rows others (peel row (rows ++ others) h).1

no_cause : {A : Type 0} (cause : Option Cause) (x y : A) → unless_cause cause x ≡ Ok y → (cause ≡ None) × (x ≡ y)
no_cause None x y h = let same : x ≡ y = cc in (refl, same)
no_cause (Some cause) x y h = absurd (cc)

neither : (a b : Bool) → (a || b) ≡ false → (a ≡ false) × (b ≡ false)
neither true b h = absurd (cc)
neither false b h = (refl, h)

below_limit : (limit count : ℕ) → nat_le limit count ≡ false → count < limit
below_limit limit count h = grind (arith, nat_tests, h)

room_of : (contents : Contents) (found : Option WrittenSet) → length contents.sets ≤ MOST_SETS → is_full_set contents.sets found ≡ false → Room (length contents.sets) found
room_of contents None few h = below_limit MOST_SETS (length contents.sets) h
room_of contents (Some set) few h = (few, below_limit MOST_RULES (length set.rules) h)

rule_flags : (too_many : Bool) (fields : List (List ℕ)) → least_cause (rule_causes too_many fields) ≡ None → (fall (years_of (field_at 2 fields) (field_at 3 fields)) ≡ false) × (too_many ≡ false)
unfolding rule_causes
rule_flags too_many fields h =
    let order = none_holds (rule_causes too_many fields) h 1 (causes.YearOrder, fall (years_of (field_at 2 fields) (field_at 3 fields))) refl in
    let limit = none_holds (rule_causes too_many fields) h 10 (causes.Limit, is_long_name (field_at 1 fields) || too_many) refl in
    (order, (neither (is_long_name (field_at 1 fields)) too_many limit).1)

line_flags : (badly_named too_many : Bool) (fields : List (List ℕ)) → least_cause (line_causes badly_named too_many fields) ≡ None → (length (field_at 2 fields) ≤ LONGEST_FORMAT) × (too_many ≡ false)
unfolding line_causes
line_flags badly_named too_many fields h =
    let short : nat_lt LONGEST_FORMAT (length (field_at 2 fields)) ≡ false = none_holds (line_causes badly_named too_many fields) h 7 (causes.LongAbbrev, nat_lt LONGEST_FORMAT (length (field_at 2 fields))) refl in
    let limit = none_holds (line_causes badly_named too_many fields) h 8 (causes.Limit, too_many || (names_set (field_at 1 fields) && is_long_name (field_at 1 fields))) refl in
    (grind (arith, nat_tests, short), (neither too_many (names_set (field_at 1 fields) && is_long_name (field_at 1 fields)) limit).0)

link_flags : (too_many : Bool) (fields : List (List ℕ)) → least_cause (link_causes too_many fields) ≡ None → too_many ≡ false
link_flags too_many fields h =
    let limit = none_holds (link_causes too_many fields) h 1 (causes.Limit, is_long_name (field_at 1 fields) || is_long_name (field_at 2 fields) || too_many) refl in
    (neither (is_long_name (field_at 1 fields) || is_long_name (field_at 2 fields)) too_many limit).1

kind_good : (number : ℕ) (contents : Contents) (kind : Kind) (fields : List (List ℕ)) (entry : Record) → length contents.sets ≤ MOST_SETS → least_cause (record_causes contents kind fields) ≡ None → record_of kind number fields ≡ Some entry → GoodRecord number contents entry
kind_good number contents RuleLine fields entry few none is =
    let rule = map_some (RuleRecord (field_at 1 fields)) (rule_of number fields) entry is in
    let flags = rule_flags (exceeds_rules (field_at 1 fields) contents) fields none in
    let good = rule_good number fields rule.0 rule.1 flags.0 in
    subst (GoodRecord number contents) rule.2 (good.0, good.1, room_of contents (find (is_set_named (field_at 1 fields)) contents.sets) few flags.1)
kind_good number contents ZoneLine fields entry few none is =
    let line = map_some (ZoneRecord (field_at 1 fields)) (line_of number (drop 2 fields)) entry is in
    let flags = line_flags (is_bad_name (field_at 1 fields)) (is_long_name (field_at 1 fields) || exceeds_zones contents) (drop 2 fields) none in
    let good = line_good number (drop 2 fields) line.0 line.1 flags.0 in
    let room = (neither (is_long_name (field_at 1 fields)) (exceeds_zones contents) flags.1).1 in
    subst (GoodRecord number contents) line.2 (good.0, good.1, below_limit MOST_ZONES (length contents.zones) room)
kind_good number contents LinkLine fields entry few none is =
    let same = some_same (LinkRecord (link_of number fields)) entry is in
    let room = link_flags (exceeds_links contents) fields none in
    subst (GoodRecord number contents) same (refl, below_limit MOST_LINKS (length contents.links) room)
kind_good number contents ContinuationLine fields entry few none is =
    let line = map_some Continuation (line_of number fields) entry is in
    let flags = line_flags false (exceeds_lines contents) fields none in
    let good = line_good number fields line.0 line.1 flags.0 in
    subst (GoodRecord number contents) line.2 (good.0, good.1)

fields_good : (number : ℕ) (contents : Contents) (fields : List (List ℕ)) (entry : Record) → length contents.sets ≤ MOST_SETS → least_cause (field_causes contents fields) ≡ None → record_of_fields contents number fields ≡ Some entry → GoodRecord number contents entry
fields_good number contents [] entry few none is = absurd (cc)
fields_good number contents (field ∷ fields) entry few none is =
    let kind = bind_some (kind_of_record (waits contents) (field ∷ fields)) (λ kind. record_of kind number (field ∷ fields)) entry is in
    let told : least_cause (kind_causes contents (Some kind.0) (field ∷ fields)) ≡ None = rw kind.1 at none in
    let count = peel (causes.FieldCount, not (has_count kind.0 (length (field ∷ fields)))) (record_causes contents kind.0 (field ∷ fields)) told in
    kind_good number contents kind.0 (field ∷ fields) entry few count.1 kind.2

pub said_good : (number : ℕ) (contents : Contents) (line : List ℕ) (said : Option Record) → GoodContents number contents → line_says contents number line ≡ Ok said → GoodContents (number + 1) (with_said said contents)
unfolding line_says
said_good number contents line None h is = later_contents number contents h
said_good number contents line (Some entry) h is =
    let says = no_cause (least_cause (causes_of_line contents number line)) (record_of_fields contents number (fields_or_none (fields_of line))) (Some entry) is in
    let of_fields = field_causes contents (fields_or_none (fields_of line)) in
    let fields = peel_front of_fields (number_causes number) (peel_back (opening_causes line) (of_fields ++ number_causes number) says.0) in
    good_with number contents entry h (fields_good number contents (fields_or_none (fields_of line)) entry h.few_sets fields says.1)

-- the contents after a line that says this
abbrev after_says : ℕ → Contents → List (List ℕ) → Result (Option Record) Cause → Result Contents LineFault
after_says number contents lines (Ok said) = contents_after (with_said said contents) (number + 1) lines
after_says number contents lines (Err cause) = Err (fault_at number cause)

after-says : (line : List ℕ) (lines : List (List ℕ)) (number : ℕ) (contents : Contents) (says : Result (Option Record) Cause) → line_says contents number line ≡ says → contents_after contents number (line ∷ lines) ≡ after_says number contents lines says
unfolding contents_after
after-says line lines number contents (Ok said) is = rw (contents_after, is) refl
after-says line lines number contents (Err cause) is = rw (contents_after, is) refl

after_said : (line : List ℕ) (lines : List (List ℕ)) (number last : ℕ) (contents given : Contents) → GoodContents number contents → ((said : Option Record) → GoodContents (number + 1) (with_said said contents) → contents_after (with_said said contents) (number + 1) lines ≡ Ok given → GoodContents last given) → (says : Result (Option Record) Cause) → line_says contents number line ≡ says → after_says number contents lines says ≡ Ok given → GoodContents last given
after_said line lines number last contents given h later (Ok said) from is = later said (said_good number contents line said h from) is
after_said line lines number last contents given h later (Err cause) from is = absurd (cc)

pub contents_good : (lines : List (List ℕ)) (number : ℕ) (contents given : Contents) → GoodContents number contents → contents_after contents number lines ≡ Ok given → GoodContents (number + length lines) given
unfolding contents_after
contents_good [] number contents given h is =
    let same : contents ≡ given = cc in
    let count : number ≡ number + 0 = omega arith in
    subst (λ it. GoodContents it given) count (subst (GoodContents number) same h)
contents_good (line ∷ lines) number contents given h is =
    let count : number + 1 + length lines ≡ number + length (line ∷ lines) = omega arith in
    after_said line lines number (number + length (line ∷ lines)) contents given h (λ said good is. subst (λ it. GoodContents it given) count (contents_good lines (number + 1) (with_said said contents) given good is)) (line_says contents number line) refl
    (sym (after-says line lines number contents (line_says contents number line) refl) ∙ is)

-- the contents after a file that gives this
abbrev after_gives : ℕ → List (List ℕ) → Result Contents LineFault → Result Contents LineFault
after_gives number files (Ok after) = contents_over (at_end_of_file after) number files
after_gives number files (Err fault) = Err fault

after-gives : (file : List ℕ) (files : List (List ℕ)) (number : ℕ) (contents : Contents) (gives : Result Contents LineFault) → contents_after contents number (lines_of file) ≡ gives → contents_over contents number (file ∷ files) ≡ after_gives (number + length (lines_of file)) files gives
unfolding contents_over
after-gives file files number contents (Ok after) is = rw (contents_over, is) refl
after-gives file files number contents (Err fault) is = rw (contents_over, is) refl

-- the end of a file changes no range
pub ended : (number : ℕ) (contents : Contents) → GoodContents number contents → GoodContents number (at_end_of_file contents)
ended number contents good = record {
  sets = good.sets;
  sets_ascend = good.sets_ascend;
  few_sets = good.few_sets;
  zones = good.zones;
  zones_rise = good.zones_rise;
  few_zones = good.few_zones;
  links = good.links;
  links_rise = good.links_rise;
  few_links = good.few_links;
}

after_file : (files : List (List ℕ)) (number : ℕ) (given : Contents) → ((contents : Contents) → GoodContents number contents → contents_over contents number files ≡ Ok given → (last : ℕ) × GoodContents last given) → (gives : Result Contents LineFault) → ((after : Contents) → gives ≡ Ok after → GoodContents number after) → after_gives number files gives ≡ Ok given → (last : ℕ) × GoodContents last given
after_file files number given later (Ok after) good is = later (at_end_of_file after) (ended number after (good after refl)) is
after_file files number given later (Err fault) good is = absurd (cc)

over_good : (files : List (List ℕ)) (number : ℕ) (contents given : Contents) → GoodContents number contents → contents_over contents number files ≡ Ok given → (last : ℕ) × GoodContents last given
unfolding contents_over
over_good [] number contents given h is =
    let same : contents ≡ given = cc in
    (number, subst (GoodContents number) same h)
over_good (file ∷ files) number contents given h is =
    after_file files (number + length (lines_of file)) given (λ next good is. over_good files (number + length (lines_of file)) next given good is) (contents_after contents number (lines_of file)) (λ after gives. contents_good (lines_of file) number contents after h gives)
    (sym (after-gives file files number contents (contents_after contents number (lines_of file)) refl) ∙ is)

-- before any line
pub none_good : GoodContents 1 no_contents
none_good =
    record { sets = tt; sets_ascend = refl; few_sets = omega arith; zones = tt; zones_rise = refl; few_zones = omega arith; links = tt; links_rise = refl; few_links = omega arith }

-- what files give is in its ranges
pub files_good : (files : List (List ℕ)) (given : Contents) → contents_of files ≡ Ok given → (last : ℕ) × GoodContents last given
unfolding contents_of
files_good files given is = over_good files 1 no_contents given none_good is
