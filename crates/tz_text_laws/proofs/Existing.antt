-- Each source is read as a database, or refused with a fault.
use Rattle.std.proofs.Common.{◌≡◌, ℕ, zero, suc, ◌≤◌, ◌⊎◌, inl, inr, true, false, ◌&&◌, ◌||◌, ◌==◌, nat_le, nat_lt, IsTrue, List, [], ◌∷◌, ◌++◌, length, map, filter_map, flat_map, Result, Ok, Err, refl, sym, ap, ◌∙◌, ⊎_elim, arith, subst}
use Rattle.std.specs.List.{Contains, All}
use Rattle.std.specs.List.Sorted.{IsPermutation}
use Rattle.std.proofs.lemmas.Bool.{cases_Bool}
use Rattle.std.proofs.lemmas.Bool.Decides.{nat_tests}
use Rattle.std.proofs.lemmas.List.Elements.{Contains-append_left, Contains-append_right}
use Rattle.std.proofs.lemmas.List.Sorted.{IsPermutation-map, length_permutation}
use Rattle.tz_types.specs.Order.{ascends, name_before}
use Rattle.tz_types.specs.declared.limit.TheConstants.{MOST_ZONES, MOST_LINKS}
use Rattle.tz_types.specs.declared.fault.Fault.{Fault}
use Rattle.tz_types.specs.declared.fault.LineFault.{LineFault}
use Rattle.tz_types.specs.declared.source.Source.{Source}
use Rattle.tz_types.specs.declared.rule_set.RuleSet.{RuleSet}
use Rattle.tz_types.specs.declared.zone.Zone.{Zone}
use Rattle.tz_types.specs.declared.link.Link.{Link}
use Rattle.tz_types.specs.declared.database.Db.{Db}
use Rattle.tz_specs.specs.Expansion.{first_instant}
use Rattle.tz_specs.specs.Written.{WrittenSet, WrittenZone, WrittenLink, set_names, written_set, written_zone, written_link}
use Rattle.tz_specs.specs.Contents.{Contents, contents_of}
use Rattle.tz_specs.specs.Whole.{unknown_rule, missing_continuation, missing_target, zone_name, names_given, repeated_name, late_lines, whole_faults, is_told_before, IsLeast}
use Rattle.tz_specs.specs.Reads.{version_of, Reads, RefusesWhole, RefusesFiles, Refuses, place_in}
use Rattle.tz_specs.proofs.ListLemmas.{none_first, none_second}
use Rattle.tz_specs.proofs.AscendingLemmas.{is_first, is_later}
use Rattle.tz_text_laws.proofs.Continued.{are_whole, zones_whole}
use Rattle.tz_text_laws.proofs.GoodContents.{GoodContents, begins, files_good}
use Rattle.tz_text_laws.proofs.Making.{make_sets, map_map, map_length}
use Rattle.tz_text_laws.proofs.Sorting.{sorted, sorted_permutes, sorted_ascends, Each, each_sorted, distinct_from, contains_map}
use Rattle.tz_text_laws.proofs.Zones.{make_zones, all_known, knows, entry_of, zone_entries, no_repeat, make_links, places_are, leads_there}

name_of : Zone → List ℕ
name_of zone = zone.name

link_name : Link → List ℕ
link_name link = link.name

at_most : (count other most : ℕ) → count ≡ other → other ≤ most → count ≤ most
at_most count other most same few = omega (arith, same, few)

-- the parts of no faults
record NoFaults (sets : List RuleSet) (contents : Contents) : Type 0 where
  unknown : flat_map (λ (zone : WrittenZone). filter_map (unknown_rule sets) zone.lines) contents.zones ≡ []
  names : filter_map (repeated_name (names_given contents)) (names_given contents) ≡ []
  targets : filter_map (missing_target contents) contents.links ≡ []

no_faults : (sets : List RuleSet) (contents : Contents) → whole_faults sets contents ≡ [] → NoFaults sets contents
unfolding whole_faults
no_faults sets contents h =
    let waiting = filter_map missing_continuation contents.zones in
    let unknown = flat_map (λ (zone : WrittenZone). filter_map (unknown_rule sets) zone.lines) contents.zones in
    let names = filter_map (repeated_name (names_given contents)) (names_given contents) in
    let targets = filter_map (missing_target contents) contents.links in
    let late = flat_map (λ (zone : WrittenZone). late_lines sets first_instant zone.lines) contents.zones in
    let before = none_first (waiting ++ unknown ++ names ++ targets) late h in
    let further = none_first (waiting ++ unknown ++ names) targets before in
    record {
      unknown = none_second waiting unknown (none_first (waiting ++ unknown) names further);
      names = none_second (waiting ++ unknown) names further;
      targets = none_second (waiting ++ unknown ++ names) targets before;
    }

-- the zones of a text in the order of their names
record MadeZones (sets : List RuleSet) (contents : Contents) : Type 0 where
  zones : List Zone
  same : IsPermutation contents.zones (map (written_zone (set_names sets)) zones)
  ascend : IsTrue (ascends name_before (map (λ zone. zone.name) zones))
  few : length zones ≤ MOST_ZONES
  known : Each (knows sets) zones

made_zones : (last : ℕ) (sets : List RuleSet) (contents : Contents) → GoodContents last contents → IsTrue (are_whole contents.zones) → NoFaults sets contents → MadeZones sets contents
unfolding name_of
made_zones last sets contents good whole none =
    let written = written_zone (set_names sets) in
    let made = make_zones sets last contents.zones good.zones whole none.unknown in
    let zones = sorted name_of made.0 in
    let order = sorted_permutes name_of made.0 in
    let same : IsPermutation contents.zones (map written zones) =
    subst (λ it. IsPermutation it (map written zones)) made.2 (IsPermutation-map written made.0 zones order) in
    let places : map (λ zone. begins (written zone)) made.0 ≡ map begins contents.zones = sym (map_map written begins made.0) ∙ ap (map begins) made.2 in
    let among : (zone : Zone) → Contains made.0 zone → Contains (names_given contents) (entry_of (written zone)) =
    λ zone is.
    let there : Contains contents.zones (written zone) = subst (λ it. Contains it (written zone)) made.2 (contains_map written zone made.0 is) in
    let entry = contains_map entry_of (written zone) contents.zones there in
    let first : Contains (filter_map zone_name contents.zones) (entry_of (written zone)) = rw (zone_entries last contents.zones good.zones) entry in
    Contains-append_left (filter_map zone_name contents.zones) (map (λ (link : WrittenLink). (link.name, link.line)) contents.links) (entry_of (written zone)) first in
    let distinct = distinct_from name_of (λ zone. begins (written zone)) made.0 (rw places good.zones_rise) (λ one other first second. no_repeat (names_given contents) (entry_of (written one)) (entry_of (written other)) none.names (among one first) (among other second)) in
    let count : length zones ≡ length contents.zones = length_permutation made.0 zones order ∙ sym (map_length written made.0) ∙ ap length made.2 in
    let few = at_most (length zones) (length contents.zones) MOST_ZONES count good.few_zones in
    record { zones = zones; same = same; ascend = sorted_ascends name_of made.0 distinct; few = few; known = each_sorted (knows sets) name_of made.0 made.1 }

record MadeLinks (contents : Contents) (zones : List Zone) : Type 0 where
  links : List Link
  same : IsPermutation contents.links (map written_link links)
  ascend : IsTrue (ascends name_before (map (λ link. link.name) links))
  few : length links ≤ MOST_LINKS
  lead : Each (leads_there contents zones) links

made_links : (last : ℕ) (sets : List RuleSet) (contents : Contents) (zones : List Zone) → GoodContents last contents → NoFaults sets contents → IsPermutation contents.zones (map (written_zone (set_names sets)) zones) → MadeLinks contents zones
unfolding link_name
made_links last sets contents zones good none there =
    let made = make_links contents (set_names sets) zones contents.links there none.targets in
    let links = sorted link_name made.0 in
    let order = sorted_permutes link_name made.0 in
    let same : IsPermutation contents.links (map written_link links) =
    subst (λ it. IsPermutation it (map written_link links)) made.2 (IsPermutation-map written_link made.0 links order) in
    let places : map (λ (link : Link). link.line) made.0 ≡ map (λ (link : WrittenLink). link.line) contents.links =
    sym (map_map written_link (λ (link : WrittenLink). link.line) made.0) ∙ ap (map (λ (link : WrittenLink). link.line)) made.2 in
    let among : (link : Link) → Contains made.0 link → Contains (names_given contents) (link.name, link.line) =
    λ link is.
    let there : Contains contents.links (written_link link) = subst (λ it. Contains it (written_link link)) made.2 (contains_map written_link link made.0 is) in
    let entry = contains_map (λ (link : WrittenLink). (link.name, link.line)) (written_link link) contents.links there in
    Contains-append_right (filter_map zone_name contents.zones) (map (λ (link : WrittenLink). (link.name, link.line)) contents.links) (link.name, link.line) entry in
    let distinct = distinct_from link_name (λ link. link.line) made.0 (rw places good.links_rise) (λ one other first second. no_repeat (names_given contents) (one.name, one.line) (other.name, other.line) none.names (among one first) (among other second)) in
    let count : length links ≡ length contents.links = length_permutation made.0 links order ∙ sym (map_length written_link made.0) ∙ ap length made.2 in
    let few = at_most (length links) (length contents.links) MOST_LINKS count good.few_links in
    record { links = links; same = same; ascend = sorted_ascends link_name made.0 distinct; few = few; lead = each_sorted (leads_there contents zones) link_name made.0 made.1 }

-- a source without faults is read as a database
database : (source : Source) (contents : Contents) (last : ℕ) (sets : List RuleSet) → contents_of source.files ≡ Ok contents → GoodContents last contents → map written_set sets ≡ contents.sets → whole_faults sets contents ≡ [] → (db : Db) × Reads source db
database source contents last sets given good are none =
    let parts = no_faults sets contents none in
    let zones = made_zones last sets contents good (zones_whole source.files contents given) parts in
    let links = made_links last sets contents zones.zones good parts zones.same in
    let names : map (λ (set : RuleSet). set.name) sets ≡ map (λ (set : WrittenSet). set.name) contents.sets =
    sym (map_map written_set (λ (set : WrittenSet). set.name) sets) ∙ ap (map (λ (set : WrittenSet). set.name)) are in
    let count : length sets ≡ length contents.sets = sym (map_length written_set sets) ∙ ap length are in
    let few = good.few_sets in
    let db : Db = record {
      version = version_of source;
      sets = sets;
      zones = zones.zones;
      links = links.links;
      sets_ascend = rw names good.sets_ascend;
      zones_ascend = zones.ascend;
      links_ascend = links.ascend;
      few_sets = omega (arith, count, few);
      few_zones = zones.few;
      few_links = links.few;
    } in (
      db,
      record {
        contents = contents;
        given = given;
        no_fault = none;
        version = refl;
        sets = are;
        zones = zones.same;
        links = links.same;
        places = places_are contents zones.zones links.links links.lead;
        known = all_known sets zones.zones zones.known;
      },
    )

-- of some faults there is a least

told_before_all : (a b c : LineFault) → IsTrue (is_told_before a b) → IsTrue (is_told_before b c) → IsTrue (is_told_before a c)
told_before_all a b c first second = on_numbers a.line b.line c.line a.cause b.cause c.cause first second
  where
    on_numbers : (a b c d e f : ℕ) → IsTrue (nat_lt a b || ((a == b) && nat_le d e)) → IsTrue (nat_lt b c || ((b == c) && nat_le e f)) → IsTrue (nat_lt a c || ((a == c) && nat_le d f))
    on_numbers a b c d e f first second = grind (arith, nat_tests)

or_told_before : (a b : LineFault) → is_told_before a b ≡ false → IsTrue (is_told_before b a)
or_told_before a b h = on_numbers a.line b.line a.cause b.cause h
  where
    on_numbers : (a b d e : ℕ) → (nat_lt a b || ((a == b) && nat_le d e)) ≡ false → IsTrue (nat_lt b a || ((b == a) && nat_le e d))
    on_numbers a b d e h = grind (arith, nat_tests)

told_before_itself : (a : LineFault) → IsTrue (is_told_before a a)
told_before_itself a = on_numbers a.line a.cause
  where
    on_numbers : (a d : ℕ) → IsTrue (nat_lt a a || ((a == a) && nat_le d d))
    on_numbers a d = grind (arith, nat_tests)

all_each : {X : Type 0} (P : X → Type 0) (xs : List X) → Each P xs → All P xs
all_each P [] each place other below = absurd (omega (arith, below))
all_each P (x ∷ xs) each zero other below = each.0
all_each P (x ∷ xs) each (suc place) other below = all_each P xs each.1 place other (omega (arith, below))

before_each : (a b : LineFault) (faults : List LineFault) → IsTrue (is_told_before a b) → Each (λ other. IsTrue (is_told_before b other)) faults → Each (λ other. IsTrue (is_told_before a other)) faults
before_each a b [] first each = tt
before_each a b (fault ∷ faults) first each = (told_before_all a b fault first each.0, before_each a b faults first each.1)

record Leading (faults : List LineFault) : Type 0 where
  fault : LineFault
  among : Contains faults fault
  before : Each (λ other. IsTrue (is_told_before fault other)) faults

leading : (fault : LineFault) (faults : List LineFault) → Leading (fault ∷ faults)
leading fault [] = record { fault = fault; among = is_first fault []; before = (told_before_itself fault, tt) }
leading fault (next ∷ faults) =
    let least = leading next faults in
    ⊎_elim (λ (here : is_told_before fault least.fault ≡ true).
    record { fault = fault; among = is_first fault (next ∷ faults); before = (told_before_itself fault, before_each fault least.fault (next ∷ faults) here least.before) })
    (λ (there : is_told_before fault least.fault ≡ false).
    record { fault = least.fault; among = is_later fault least.fault (next ∷ faults) least.among; before = (or_told_before fault least.fault there, least.before) })
    (cases_Bool (is_told_before fault least.fault))

-- a fault of the files is one of the source, by its place
refusal : (source : Source) (fault : LineFault) → RefusesFiles source.files fault → (fault : Fault) × Refuses source fault
refusal source fault refused =
    let place = place_in source.files fault.line in
    (record { file = place.0; line = place.1; cause = fault.cause }, record { line = fault.line; refused = refused; place = refl })

by_faults : (source : Source) (contents : Contents) (last : ℕ) (sets : List RuleSet) → contents_of source.files ≡ Ok contents → GoodContents last contents → map written_set sets ≡ contents.sets → (faults : List LineFault) → whole_faults sets contents ≡ faults → ((db : Db) × Reads source db) ⊎ ((fault : Fault) × Refuses source fault)
by_faults source contents last sets given good are [] is = inl (database source contents last sets given good are is)
by_faults source contents last sets given good are (fault ∷ faults) is =
    let least = leading fault faults in
    let told : IsLeast (fault ∷ faults) least.fault =
    record { among = least.among; least = all_each (λ other. IsTrue (is_told_before least.fault other)) (fault ∷ faults) least.before } in
    let whole : RefusesWhole source.files least.fault =
    record { contents = contents; given = given; sets = sets; sets_are = are; least = subst (λ it. IsLeast it least.fault) (sym is) told } in
    inr (refusal source least.fault (inr whole))

by_contents : (source : Source) (outcome : Result Contents LineFault) → contents_of source.files ≡ outcome → ((db : Db) × Reads source db) ⊎ ((fault : Fault) × Refuses source fault)
by_contents source (Err fault) is = inr (refusal source fault (inl is))
by_contents source (Ok contents) is =
    let good = files_good source.files contents is in
    let sets = make_sets good.0 contents.sets good.1.sets in
    by_faults source contents good.0 sets.0 is good.1 sets.1 (whole_faults sets.0 contents) refl

pub read_or_refused : (source : Source) → ((db : Db) × Reads source db) ⊎ ((fault : Fault) × Refuses source fault)
read_or_refused source = by_contents source (contents_of source.files) refl
