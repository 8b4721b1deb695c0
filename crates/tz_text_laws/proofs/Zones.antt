-- The zones and links of a database, of what a text without faults gives.
use Rattle.std.proofs.Common.{◌≡◌, ℕ, zero, suc, ◌<◌, ◌≤◌, nat_le, Bool, true, false, ◌&&◌, ◌||◌, IsTrue, List, [], ◌∷◌, length, map, filter_map, flat_map, find, position, nat_lt, Option, Some, None, refl, sym, ap, ◌∙◌, ⊎_elim, arith, subst}
use Rattle.std.specs.Option.{is_none}
use Rattle.std.specs.List.{Contains, list_all, list_any, position_or_len}
use Rattle.std.proofs.lemmas.Bool.Decides.{nat_tests}
use Rattle.std.specs.List.Sorted.{IsPermutation}
use Rattle.std.proofs.lemmas.Bool.{cases_Bool, and_parts}
use Rattle.std.proofs.lemmas.List.Sorted.{list_any-IsPermutation}
use Rattle.tz_types.specs.declared.limit.TheConstants.{MOST_ZONE_LINES}
use Rattle.tz_types.specs.declared.cause.Cause.{Cause}
use Rattle.tz_types.specs.declared.cause.Cause.TheVariants as causes
use Rattle.tz_types.specs.declared.rule_set.RuleSet.{RuleSet}
use Rattle.tz_types.specs.declared.zone_line.ZoneLine.{ZoneLine}
use Rattle.tz_types.specs.declared.zone.Zone.{Zone}
use Rattle.tz_types.specs.declared.link.Link.{Link}
use Rattle.tz_specs.specs.Choice.{◌>>=◌}
use Rattle.tz_specs.specs.Sound.{is_known}
use Rattle.tz_specs.specs.Value.{is_exactly}
use Rattle.tz_specs.specs.Written.{WrittenLine, WrittenZone, WrittenLink, set_names, written_line, written_zone, written_link}
use Rattle.tz_specs.specs.Contents.{Contents}
use Rattle.tz_specs.specs.Whole.{fault_where, following_in, unknown_rule, zone_name, repeated_name, is_zone_name, reached, zone_of_link, missing_target}
use Rattle.tz_specs.proofs.ListLemmas.{none_first, none_second}
use Rattle.tz_database.proofs.ZoneTime.{goes_on}
use Rattle.tz_text_laws.proofs.Choices.{bind_some, only_some, some_same}
use Rattle.tz_text_laws.proofs.GoodContents.{GoodLines, GoodZone, GoodZones, begins, has_line}
use Rattle.tz_text_laws.proofs.Continued.{is_whole, are_whole}
use Rattle.tz_text_laws.proofs.Making.{make_line, map_length}
use Rattle.tz_text_laws.proofs.Sorting.{Each, none_each, any_each}

no_fault_where : (holds : Bool) (number : ℕ) (cause : Cause) → fault_where holds number cause ≡ None → holds ≡ false
no_fault_where true number cause h = absurd (cc)
no_fault_where false number cause h = refl

pub not_none : {X Y : Type 0} (f : X → Option Y) (x : X) (xs : List X) → filter_map f (x ∷ xs) ≡ [] → (f x ≡ None) × (filter_map f xs ≡ [])
not_none {Y = Y} f x xs h = split (f x) refl h
  where
    split : (value : Option Y) → f x ≡ value → filter_map f (x ∷ xs) ≡ [] → (f x ≡ None) × (filter_map f xs ≡ [])
    split None is h = (is, rw is at h)
    split (Some z) is h = let bad : z ∷ filter_map f xs ≡ [] = rw is at h in absurd (cc)

make_lines : (sets : List RuleSet) (lines : List WrittenLine) → GoodLines lines → filter_map (unknown_rule sets) lines ≡ [] → (made : List ZoneLine) × IsTrue (list_all (λ line. is_known sets line.rules) made) × (map (written_line (set_names sets)) made ≡ lines)
make_lines sets [] good none = ([], refl, refl)
make_lines sets (line ∷ lines) good none =
    let parts = not_none (unknown_rule sets) line lines none in
    let known = no_fault_where (is_none (following_in sets line.rules)) line.line causes.UnknownRule parts.0 in
    let first = make_line sets line good.0 known in
    let later = make_lines sets lines good.1 parts.1 in
    (first.0 ∷ later.0, rw first.1 later.1, λ i. first.2 i ∷ later.2 i)

-- a zone of the types' own, whose sets are known, that is written so
record MadeZone (sets : List RuleSet) (zone : WrittenZone) : Type 0 where
  made : Zone
  known : IsTrue (list_all (λ line. is_known sets line.rules) made.lines)
  written : written_zone (set_names sets) made ≡ zone

-- a zone that has a line has one at least
one_at_least : (zone : WrittenZone) → IsTrue (has_line zone) → 1 ≤ length zone.lines
one_at_least zone h = by_lines zone.lines refl h
  where
    by_lines : (lines : List WrittenLine) → zone.lines ≡ lines → IsTrue (has_line zone) → 1 ≤ length zone.lines
    by_lines [] is h = let bad : false ≡ true = rw is at h in absurd (cc)
    by_lines (line ∷ lines) is h = rw is (omega arith)

few_at_most : (count : ℕ) → IsTrue (nat_le count MOST_ZONE_LINES) → count ≤ MOST_ZONE_LINES
few_at_most count h = grind (arith, nat_tests)

make_zone : (sets : List RuleSet) (number : ℕ) (zone : WrittenZone) → GoodZone number zone → IsTrue (is_whole zone) → filter_map (unknown_rule sets) zone.lines ≡ [] → MadeZone sets zone
make_zone sets number zone good whole none =
    let lines = make_lines sets zone.lines good.lines none in
    let count : length lines.0 ≡ length zone.lines = sym (map_length (written_line (set_names sets)) lines.0) ∙ ap length lines.2 in
    let some = one_at_least zone good.begun in
    let few = few_at_most (length zone.lines) (and_parts (goes_on zone.lines) (nat_le (length zone.lines) MOST_ZONE_LINES) whole).1 in
    let made : Zone = record { name = zone.name; lines = lines.0; some_line = omega (arith, count, some); few_lines = omega (arith, count, few) } in
    record { made = made; known = lines.1; written = λ i. record { name = zone.name; lines = lines.2 i } }

abbrev pub knows : List RuleSet → Zone → Type 0
knows sets zone = IsTrue (list_all (λ line. is_known sets line.rules) zone.lines)

pub make_zones : (sets : List RuleSet) (number : ℕ) (zones : List WrittenZone) → GoodZones number zones → IsTrue (are_whole zones) → flat_map (λ (zone : WrittenZone). filter_map (unknown_rule sets) zone.lines) zones ≡ [] → (made : List Zone) × Each (knows sets) made × (map (written_zone (set_names sets)) made ≡ zones)
make_zones sets number [] good whole none = ([], tt, refl)
make_zones sets number (zone ∷ zones) good whole none =
    let both = and_parts (is_whole zone) (are_whole zones) whole in
    let here = filter_map (unknown_rule sets) zone.lines in
    let there = flat_map (λ (zone : WrittenZone). filter_map (unknown_rule sets) zone.lines) zones in
    let first = make_zone sets number zone good.0 both.0 (none_first here there none) in
    let later = make_zones sets number zones good.1 both.1 (none_second here there none) in
    (first.made ∷ later.0, (first.known, later.1), λ i. first.written i ∷ later.2 i)

pub all_known : (sets : List RuleSet) (zones : List Zone) → Each (knows sets) zones → IsTrue (list_all (λ zone. list_all (λ line. is_known sets line.rules) zone.lines) zones)
all_known sets [] each = refl
all_known sets (zone ∷ zones) each = rw each.0 (all_known sets zones each.1)

-- the names of zones that have lines
abbrev pub entry_of : WrittenZone → List ℕ × ℕ
entry_of zone = (zone.name, begins zone)

zone_entry : (number : ℕ) (zone : WrittenZone) → GoodZone number zone → zone_name zone ≡ Some (entry_of zone)
zone_entry number zone good = by_lines zone.lines refl good.begun
  where
    by_lines : (lines : List WrittenLine) → zone.lines ≡ lines → IsTrue (has_line zone) → zone_name zone ≡ Some (zone.name, begins zone)
    by_lines [] is h = let bad : false ≡ true = rw is at h in absurd (cc)
    by_lines (line ∷ lines) is h = rw is refl

pub zone_entries : (number : ℕ) (zones : List WrittenZone) → GoodZones number zones → filter_map zone_name zones ≡ map entry_of zones
zone_entries number [] good = refl
zone_entries number (zone ∷ zones) good = rw (zone_entry number zone good.0, zone_entries number zones good.1) refl

-- no name repeats an earlier one
pub no_repeat : (names : List (List ℕ × ℕ)) (one other : List ℕ × ℕ) → filter_map (repeated_name names) names ≡ [] → Contains names one → Contains names other → (is_exactly one.0 other.0 && nat_lt one.1 other.1) ≡ false
no_repeat names one other none first second =
    let told = none_each (repeated_name names) names other none second in
    let test = list_any (λ earlier. is_exactly earlier.0 other.0 && nat_lt earlier.1 other.1) names in
    let holds = no_fault_where test other.1 causes.DuplicateName told in
    any_each (λ earlier. is_exactly earlier.0 other.0 && nat_lt earlier.1 other.1) names one holds first

-- what a link leads to is a zone
reached_zone : (zones : List WrittenZone) (links : List WrittenLink) (steps : ℕ) (name found : List ℕ) → reached zones links steps name ≡ Some found → IsTrue (is_zone_name zones found)
reached_zone zones links zero name found h =
    let test = only_some (is_zone_name zones name) name found h in
    subst (λ it. IsTrue (is_zone_name zones it)) test.1 test.0
reached_zone zones links (suc steps) name found h =
    ⊎_elim (λ (here : is_zone_name zones name ≡ true).
    subst (λ it. IsTrue (is_zone_name zones it)) (some_same name found (rw here at h)) here)
    (λ (other : is_zone_name zones name ≡ false).
    let link = bind_some (find (λ (link : WrittenLink). is_exactly link.name name) links) (λ link. reached zones links steps link.target) found (rw other at h) in
    reached_zone zones links steps link.0.target found link.2)
    (cases_Bool (is_zone_name zones name))

-- an element that passes has a place
place_below : {X : Type 0} (p : X → Bool) (xs : List X) → IsTrue (list_any p xs) → position_or_len p xs < length xs
place_below p [] h = absurd (cc)
place_below p (x ∷ xs) h =
    ⊎_elim (λ (here : p x ≡ true). rw here (omega arith))
    (λ (other : p x ≡ false).
    let later = place_below p xs (rw other at h) in
    rw other (omega (arith, later)))
    (cases_Bool (p x))

has_place : {X : Type 0} (p : X → Bool) (xs : List X) → IsTrue (list_any p xs) → position p xs ≡ Some (position_or_len p xs)
has_place p xs h =
    let below = place_below p xs h in
    let test : IsTrue (nat_lt (position_or_len p xs) (length xs)) = grind (arith, nat_tests, below) in
    rw test refl

-- a zone in a list of zones of the types' own
any_written : (names : List (List ℕ)) (name : List ℕ) (zones : List Zone) → list_any (λ (zone : WrittenZone). is_exactly zone.name name) (map (written_zone names) zones) ≡ list_any (λ (zone : Zone). is_exactly zone.name name) zones
any_written names name [] = refl
any_written names name (zone ∷ zones) = ap (λ it. is_exactly zone.name name || it) (any_written names name zones)

-- the place of the zone to which a link leads
abbrev pub place_of_link : Contents → List Zone → WrittenLink → Option ℕ
place_of_link contents zones link =
    zone_of_link contents link >>= λ name. position (λ zone. is_exactly zone.name name) zones

-- a link of the types' own, which leads to its zone
abbrev pub leads_there : Contents → List Zone → Link → Type 0
leads_there contents zones link = Some link.zone ≡ place_of_link contents zones (written_link link)

leads : (contents : Contents) (names : List (List ℕ)) (zones : List Zone) (link : WrittenLink) → IsPermutation contents.zones (map (written_zone names) zones) → missing_target contents link ≡ None → (place : ℕ) × (Some place ≡ place_of_link contents zones link)
leads contents names zones link same h = by_name (zone_of_link contents link) refl
  where
    by_name : (name : Option (List ℕ)) → zone_of_link contents link ≡ name → (place : ℕ) × (Some place ≡ place_of_link contents zones link)
    by_name None is =
        let none = no_fault_where (is_none (zone_of_link contents link)) link.line causes.LinkTarget h in
        let bad : true ≡ false = rw is at none in absurd (cc)
    by_name (Some name) is =
        let zone = reached_zone contents.zones contents.links (length contents.links) link.target name is in
        let there : IsTrue (list_any (λ (zone : Zone). is_exactly zone.name name) zones) =
        sym (any_written names name zones) ∙ sym (list_any-IsPermutation (λ (zone : WrittenZone). is_exactly zone.name name) contents.zones (map (written_zone names) zones) same) ∙ zone in
        let place = has_place (λ (zone : Zone). is_exactly zone.name name) zones there in
        (position_or_len (λ (zone : Zone). is_exactly zone.name name) zones, rw is (sym place))

pub make_links : (contents : Contents) (names : List (List ℕ)) (zones : List Zone) (links : List WrittenLink) → IsPermutation contents.zones (map (written_zone names) zones) → filter_map (missing_target contents) links ≡ [] → (made : List Link) × Each (leads_there contents zones) made × (map written_link made ≡ links)
make_links contents names zones [] same none = ([], tt, refl)
make_links contents names zones (link ∷ links) same none =
    let parts = not_none (missing_target contents) link links none in
    let place = leads contents names zones link same parts.0 in
    let later = make_links contents names zones links same parts.1 in
    (record { name = link.name; target = link.target; zone = place.0; line = link.line } ∷ later.0, (place.1, later.1), λ i. link ∷ later.2 i)

pub places_are : (contents : Contents) (zones : List Zone) (links : List Link) → Each (leads_there contents zones) links → map (λ link. Some link.zone) links ≡ map (λ link. place_of_link contents zones (written_link link)) links
places_are contents zones [] each = refl
places_are contents zones (link ∷ links) each = let later = places_are contents zones links each.1 in λ i. each.0 i ∷ later i
