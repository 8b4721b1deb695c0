-- A database that is built of parts without a fault.
use Rattle.std.proofs.Common.{◌≡◌, ◌≢◌, ℕ, ◌<◌, ◌≤◌, Bool, true, false, IsTrue, List, [], ◌∷◌, length, map, get_or, Option, Some, None, is_some, option_map, refl, sym, ap, ◌∙◌, arith, All}
use Rattle.std.specs.Prelude.{nat_lt}
use Rattle.std.proofs.lemmas.Bool.{and_parts, and_from}
use Rattle.std.proofs.lemmas.Bool.Decides.{nat_tests}
use Rattle.std.specs.Option.{is_none}
use Rattle.std.specs.List.{list_all, filter_map, flat_map, slice_get, AllPairs}
use Rattle.std.specs.List.Sorted.{IsPermutation}
use Rattle.std.proofs.lemmas.List.{length-map}
use Rattle.std.proofs.lemmas.List.Elements.{All-nil, All-cons, All-head, All-tail}
use Rattle.std.proofs.lemmas.List.Sums.{AllPass-from_list_all, list_all-from_AllPass}
use Rattle.std.proofs.lemmas.List.Sorted.{IsPermutation-sym, IsPermutation-map, All-permutation, length_permutation}
use Rattle.std.proofs.lemmas.Option.{slice_get-map, slice_get_within, get_or_from_slice_get}
use Rattle.std.proofs.lemmas.Simd.{map-map}
use Rattle.tz_types.specs.Order.{ascends, name_before}
use Rattle.tz_types.specs.declared.limit.TheConstants.{MOST_ZONES, MOST_LINKS}
use Rattle.tz_types.specs.declared.cause.Cause.TheVariants as causes
use Rattle.tz_types.specs.declared.rule_set.RuleSet.{RuleSet}
use Rattle.tz_types.specs.declared.zone_line.ZoneLine.{ZoneLine}
use Rattle.tz_types.specs.declared.zone.Zone.{Zone}
use Rattle.tz_types.specs.declared.link.Link.{Link}
use Rattle.tz_types.specs.declared.database.Db.{Db}
use Rattle.tz_specs.specs.Choice.{◌>>=◌}
use Rattle.tz_specs.specs.Written.{WrittenZone, WrittenLink, set_names, written_set, written_line, written_zone, written_link}
use Rattle.tz_specs.specs.Contents.{Contents}
use Rattle.tz_specs.specs.Whole.{following_in, unknown_rule, zone_of_link, missing_target, whole_faults}
use Rattle.tz_specs.specs.Sound.{is_known, is_sound_zone}
use Rattle.tz_database.specs.declared.parts.Parts.{Parts}
use Rattle.tz_database.specs.Parts.{contents_given}
use Rattle.tz_database.specs.LineOrder.{begin_in_order, link_in_order}
use Rattle.tz_database.specs.Continued.{is_named_by}
use Rattle.tz_database.specs.Reach.{name_at}
use Rattle.tz_database.specs.SetPlace.{set_place_of}
use Rattle.tz_database.specs.ZonePlace.{zone_place_of, place_reached}
use Rattle.tz_database.specs.Settled.{has_set, have_sets, AreSettledZones}
use Rattle.tz_database.specs.Built.{IsBuiltOf}
use Rattle.tz_database.proofs.Faultless.{faultless, none_first, none_second, none_of_first, none_of_rest, no_fault}
use Rattle.tz_database.proofs.NamesFound.{found-position}
use Rattle.tz_database.proofs.PlacesOfNames.{place_within}
use Rattle.tz_database.proofs.SettledLines.{named_set}
use Rattle.tz_database.proofs.NamesApart.{zones_apart, links_apart}
use Rattle.tz_database.proofs.ZoneTime.{own_place, there_is, zones_sound, zones_go_on}

abbrev pub zone_name_of : Zone → List ℕ
zone_name_of zone = zone.name

abbrev pub link_name_of : Link → List ℕ
link_name_of link = link.name

-- ---- each line has its set

abbrev named_lines : ℕ → List ZoneLine → Bool
named_lines count lines = list_all (λ (line : ZoneLine). is_named_by count line.rules) lines

lines_have : (sets : List RuleSet) (names : List (List ℕ)) (lines : List ZoneLine) → IsTrue (named_lines (length names) lines) → filter_map (unknown_rule sets) (map (written_line names) lines) ≡ [] → IsTrue (have_sets (map (set_place_of sets) names) lines)
lines_have sets names [] named known = refl
lines_have sets names (line ∷ lines) named known =
    let places = map (set_place_of sets) names in
    let here = written_line names line in
    let rest = filter_map (unknown_rule sets) (map (written_line names) lines) in
    let both = and_parts (is_named_by (length names) line.rules) (named_lines (length names) lines) named in
    let follows = no_fault (is_none (following_in sets here.rules)) line.line causes.UnknownRule (none_of_first (unknown_rule sets here) rest known) in
    and_from (has_set places line.rules) (have_sets places lines) (named_set sets names line.rules both.0 follows) (lines_have sets names lines both.1 (none_of_rest (unknown_rule sets here) rest known))

zones_have : (sets : List RuleSet) (names : List (List ℕ)) (zones : List Zone) → IsTrue (list_all (λ (zone : Zone). named_lines (length names) zone.lines) zones) → flat_map (λ (zone : WrittenZone). filter_map (unknown_rule sets) zone.lines) (map (written_zone names) zones) ≡ [] → IsTrue (list_all (λ (zone : Zone). have_sets (map (set_place_of sets) names) zone.lines) zones)
zones_have sets names [] named known = refl
zones_have sets names (zone ∷ zones) named known =
    let places = map (set_place_of sets) names in
    let here = filter_map (unknown_rule sets) (map (written_line names) zone.lines) in
    let rest = flat_map (λ (zone : WrittenZone). filter_map (unknown_rule sets) zone.lines) (map (written_zone names) zones) in
    let both = and_parts (named_lines (length names) zone.lines) (list_all (λ (zone : Zone). named_lines (length names) zone.lines) zones) named in
    and_from (have_sets places zone.lines) (list_all (λ (zone : Zone). have_sets places zone.lines) zones) (lines_have sets names zone.lines both.0 (none_first here rest known)) (zones_have sets names zones both.1 (none_second here rest known))

pub sets_had : (parts : Parts) (places : List (Option ℕ)) → places ≡ map (set_place_of parts.sets) parts.names → whole_faults parts.sets (contents_given parts) ≡ [] → IsTrue (list_all (λ (zone : Zone). have_sets places zone.lines) parts.zones)
sets_had parts places are none =
    rw are (zones_have parts.sets parts.names parts.zones parts.named (faultless parts.sets (contents_given parts) none).known)

-- ---- the names of what was settled and placed differ as those of what was given

names_kept : {A B C : Type 0} (view : A → C) (other : B → C) (name : C → List ℕ) (xs : List A) (ys : List B) → map view xs ≡ map other ys → map (λ (x : A). name (view x)) xs ≡ map (λ (y : B). name (other y)) ys
names_kept {A} {B} {C} view other name xs ys same =
    sym (map-map name view xs) ∙ (ap (map name) same ∙ map-map name other ys)

zone_names_kept : (sets : List RuleSet) (names : List (List ℕ)) (zones settled : List Zone) → AreSettledZones sets names zones settled → map zone_name_of settled ≡ map zone_name_of zones
zone_names_kept sets names zones settled are =
    names_kept (written_zone (set_names sets)) (written_zone names) (λ (zone : WrittenZone). zone.name) settled zones are.written

pub settled_apart : (parts : Parts) (settled : List Zone) → AreSettledZones parts.sets parts.names parts.zones settled → whole_faults parts.sets (contents_given parts) ≡ [] → IsTrue (begin_in_order (contents_given parts)) → AllPairs ◌≢◌ (map zone_name_of settled)
settled_apart parts settled are none in_order =
    rw (zone_names_kept parts.sets parts.names parts.zones settled are) (zones_apart parts in_order (faultless parts.sets (contents_given parts) none).apart)

pub placed_apart : (parts : Parts) (placed : List Link) → map written_link placed ≡ map written_link parts.links → whole_faults parts.sets (contents_given parts) ≡ [] → IsTrue (link_in_order (contents_given parts)) → AllPairs ◌≢◌ (map link_name_of placed)
placed_apart parts placed written none in_order =
    rw (names_kept written_link written_link (λ (link : WrittenLink). link.name) placed parts.links written) (links_apart parts in_order (faultless parts.sets (contents_given parts) none).apart)

-- ---- how many there are

pub few_settled : (parts : Parts) (settled zones : List Zone) → AreSettledZones parts.sets parts.names parts.zones settled → IsPermutation settled zones → length zones ≤ MOST_ZONES
few_settled parts settled zones are same =
    let total = length_permutation settled zones same in
    let kept : length settled ≡ length parts.zones = sym (length-map settled zone_name_of) ∙ (ap length (zone_names_kept parts.sets parts.names parts.zones settled are) ∙ length-map parts.zones zone_name_of) in
    let few : length parts.zones ≤ MOST_ZONES = parts.few_zones in
    omega arith

pub few_placed : (parts : Parts) (placed links : List Link) → map written_link placed ≡ map written_link parts.links → IsPermutation placed links → length links ≤ MOST_LINKS
few_placed parts placed links written same =
    let total = length_permutation placed links same in
    let kept : length placed ≡ length parts.links = sym (length-map placed written_link) ∙ (ap length written ∙ length-map parts.links written_link) in
    let few : length parts.links ≤ MOST_LINKS = parts.few_links in
    omega arith

-- ---- each link reaches a zone of the database

-- a zone of the name is among the zones
abbrev HasZone : List Zone → List ℕ → Type 0
HasZone zones name = IsTrue (is_some (zone_place_of zones name))

has_own : (zones : List Zone) → IsTrue (ascends name_before (map zone_name_of zones)) → All (HasZone zones) (map zone_name_of zones)
has_own zones ascend k d within =
    let total : length (map zone_name_of zones) ≡ length zones = length-map zones zone_name_of in
    by_zone (slice_get zones k) refl (omega arith)
  where
    by_zone : (found : Option Zone) → slice_get zones k ≡ found → k < length zones → HasZone zones (get_or (map zone_name_of zones) k d)
    by_zone None at low = absurd (there_is zones k low at)
    by_zone (Some zone) at low =
        (let named : get_or (map zone_name_of zones) k d ≡ zone.name = get_or_from_slice_get (map zone_name_of zones) k zone.name d (slice_get-map zone_name_of zones k ∙ ap (option_map zone_name_of) at) in
        let place : zone_place_of zones zone.name ≡ Some k = found-position zone_name_of zone.name zones k (own_place zone_name_of zones k zone ascend at) in
        rw (named, place) refl)

has_given : (given settled zones : List Zone) → map zone_name_of settled ≡ map zone_name_of given → IsPermutation settled zones → IsTrue (ascends name_before (map zone_name_of zones)) → All (HasZone zones) (map zone_name_of given)
has_given given settled zones kept same ascend =
    rw (← kept) (All-permutation (HasZone zones) (map zone_name_of zones) (map zone_name_of settled) (IsPermutation-sym (map zone_name_of settled) (map zone_name_of zones) (IsPermutation-map zone_name_of settled zones same)) (has_own zones ascend))

-- the place reached, by the name that is reached
abbrev place_by_name : List Zone → Option (List ℕ) → Option ℕ
place_by_name zones reached = reached >>= λ name. zone_place_of zones name

reached_by_name : (given zones : List Zone) (place : Option ℕ) → place_reached (map zone_name_of given) zones place ≡ place_by_name zones (name_at given place)
reached_by_name given zones None = refl
reached_by_name given zones (Some place) = rw (slice_get-map zone_name_of given place) refl

all_by_name : (given zones : List Zone) (reached : List (Option ℕ)) → map (place_reached (map zone_name_of given) zones) reached ≡ map (place_by_name zones) (map (name_at given) reached)
all_by_name given zones [] = refl
all_by_name given zones (place ∷ reached) =
    rw (reached_by_name given zones place, all_by_name given zones reached) refl

nothing : {X : Type 0} (found : Option X) → found ≡ None → IsTrue (is_some found) → ⊥
nothing {X} None none some = cc
nothing {X} (Some x) none some = cc

has_place : (given zones : List Zone) (place : Option ℕ) → All (HasZone zones) (map zone_name_of given) → IsTrue (is_some (name_at given place)) → IsTrue (is_some (place_by_name zones (name_at given place)))
has_place given zones None all some = cc
has_place given zones (Some place) all some =
    by_name (slice_get (map zone_name_of given) place) refl (slice_get-map zone_name_of given place) some
  where
    by_name : (found : Option (List ℕ)) → slice_get (map zone_name_of given) place ≡ found → slice_get (map zone_name_of given) place ≡ name_at given (Some place) → IsTrue (is_some (name_at given (Some place))) → IsTrue (is_some (place_by_name zones (name_at given (Some place))))
    by_name None at is some = absurd (nothing (name_at given (Some place)) (sym is ∙ at) some)
    by_name (Some name) at is some =
        (let named : name_at given (Some place) ≡ Some name = sym is ∙ at in
        let here : HasZone zones name = rw (get_or_from_slice_get (map zone_name_of given) place name name at) at (all place name (slice_get_within (map zone_name_of given) place name at)) in
        rw named here)

all_have : (given zones : List Zone) (reached : List (Option ℕ)) → All (HasZone zones) (map zone_name_of given) → IsTrue (list_all (λ name. is_some name) (map (name_at given) reached)) → IsTrue (list_all (λ place. is_some (place_reached (map zone_name_of given) zones place)) reached)
all_have given zones [] all some = refl
all_have given zones (place ∷ reached) all some =
    let both = and_parts (is_some (name_at given place)) (list_all (λ name. is_some name) (map (name_at given) reached)) some in
    and_from (is_some (place_reached (map zone_name_of given) zones place)) (list_all (λ place. is_some (place_reached (map zone_name_of given) zones place)) reached) (rw (reached_by_name given zones place) (has_place given zones place all both.0)) (all_have given zones reached all both.1)

reaches : (found : Option (List ℕ)) → is_none found ≡ false → IsTrue (is_some found)
reaches None e = cc
reaches (Some name) e = refl

all_reach : (contents : Contents) (links : List WrittenLink) → filter_map (missing_target contents) links ≡ [] → IsTrue (list_all (λ name. is_some name) (map (zone_of_link contents) links))
all_reach contents [] none = refl
all_reach contents (link ∷ links) none =
    let rest = filter_map (missing_target contents) links in
    let here = no_fault (is_none (zone_of_link contents link)) link.line causes.LinkTarget (none_of_first (missing_target contents link) rest none) in
    and_from (is_some (zone_of_link contents link)) (list_all (λ name. is_some name) (map (zone_of_link contents) links)) (reaches (zone_of_link contents link) here) (all_reach contents links (none_of_rest (missing_target contents link) rest none))

abbrev pub Reached : Parts → List (Option ℕ) → Type 0
Reached parts reached = map (name_at parts.zones) reached ≡ map (zone_of_link (contents_given parts)) (contents_given parts).links

pub all_reached : (parts : Parts) (settled zones : List Zone) (reached : List (Option ℕ)) → AreSettledZones parts.sets parts.names parts.zones settled → IsPermutation settled zones → IsTrue (ascends name_before (map zone_name_of zones)) → Reached parts reached → whole_faults parts.sets (contents_given parts) ≡ [] → IsTrue (list_all (λ place. is_some (place_reached (map zone_name_of parts.zones) zones place)) reached)
all_reached parts settled zones reached settled_are same ascend are none =
    let contents = contents_given parts in
    let all = has_given parts.zones settled zones (zone_names_kept parts.sets parts.names parts.zones settled settled_are) same ascend in
    all_have parts.zones zones reached all (rw are (all_reach contents contents.links (faultless parts.sets contents none).reached))

-- ---- what holds of each link holds in another order

all_alike : {X Y : Type 0} (f g : X → Y) (xs : List X) → map f xs ≡ map g xs → All (λ x. f x ≡ g x) xs
all_alike {X} {Y} f g [] same = All-nil (λ x. f x ≡ g x)
all_alike {X} {Y} f g (x ∷ xs) same =
    All-cons (λ x. f x ≡ g x) x xs (cc) (all_alike f g xs (cc))

alike_all : {X Y : Type 0} (f g : X → Y) (xs : List X) → All (λ x. f x ≡ g x) xs → map f xs ≡ map g xs
alike_all {X} {Y} f g [] all = refl
alike_all {X} {Y} f g (x ∷ xs) all =
    (let here = All-head (λ x. f x ≡ g x) x xs all in
    let rest = alike_all f g xs (All-tail (λ x. f x ≡ g x) x xs all) in
    cc)

alike_permuted : {X Y : Type 0} (f g : X → Y) (xs ys : List X) → IsPermutation xs ys → map f xs ≡ map g xs → map f ys ≡ map g ys
alike_permuted {X} {Y} f g xs ys moved same =
    alike_all f g ys (All-permutation (λ x. f x ≡ g x) xs ys moved (all_alike f g xs same))

pub all_permuted : {X : Type 0} (p : X → Bool) (xs ys : List X) → IsPermutation xs ys → IsTrue (list_all p xs) → IsTrue (list_all p ys)
all_permuted {X} p xs ys moved all =
    list_all-from_AllPass p ys (All-permutation (λ x. p x ≡ true) xs ys moved (AllPass-from_list_all p xs all))

-- ---- the places of links, by what they say

abbrev link_place : Contents → List Zone → Link → Option ℕ
link_place contents zones link = place_by_name zones (zone_of_link contents (written_link link))

abbrev own_zone : Link → Option ℕ
own_zone link = Some link.zone

links_placed : (parts : Parts) (zones : List Zone) (placed : List Link) (reached : List (Option ℕ)) → map written_link placed ≡ map written_link parts.links → map own_zone placed ≡ map (place_reached (map zone_name_of parts.zones) zones) reached → Reached parts reached → map own_zone placed ≡ map (link_place (contents_given parts) zones) placed
links_placed parts zones placed reached written places are =
    let contents = contents_given parts in
    let by_link : WrittenLink → Option ℕ = λ link. place_by_name zones (zone_of_link contents link) in
    places ∙ (all_by_name parts.zones zones reached ∙ (ap (map (place_by_name zones)) are ∙ (map-map (place_by_name zones) (zone_of_link contents) (map written_link parts.links) ∙ (ap (map by_link) (sym written) ∙ map-map by_link written_link placed))))

place_in : (contents : Contents) (zones : List Zone) (link : Link) → own_zone link ≡ link_place contents zones link → IsTrue (nat_lt link.zone (length zones))
place_in contents zones link is = by_name (zone_of_link contents (written_link link)) is
  where
    by_name : (found : Option (List ℕ)) → own_zone link ≡ place_by_name zones found → IsTrue (nat_lt link.zone (length zones))
    by_name None is = cc
    by_name (Some name) is =
        (let low = place_within zone_name_of zones name link.zone (sym is) in grind (arith, nat_tests))

pub places_in : (contents : Contents) (zones : List Zone) (links : List Link) → map own_zone links ≡ map (link_place contents zones) links → IsTrue (list_all (λ (link : Link). nat_lt link.zone (length zones)) links)
places_in contents zones [] same = refl
places_in contents zones (link ∷ links) same =
    and_from (nat_lt link.zone (length zones)) (list_all (λ (link : Link). nat_lt link.zone (length zones)) links) (place_in contents zones link (cc)) (places_in contents zones links (cc))

-- ---- and so the database is built of the parts

pub record IsSettledOf (parts : Parts) (settled : List Zone) (placed : List Link) (reached : List (Option ℕ)) (db : Db) : Type 0 where
  pub version_is : db.version ≡ parts.version
  pub sets_are : db.sets ≡ parts.sets
  pub settled_are : AreSettledZones parts.sets parts.names parts.zones settled
  pub zones_are : IsPermutation settled db.zones
  pub written : map written_link placed ≡ map written_link parts.links
  pub placed_are : map own_zone placed ≡ map (place_reached (map zone_name_of parts.zones) db.zones) reached
  pub links_are : IsPermutation placed db.links
  pub reached_are : Reached parts reached

abbrev all_known : List RuleSet → List Zone → Bool
all_known sets zones =
    list_all (λ (zone : Zone). list_all (λ (line : ZoneLine). is_known sets line.rules) zone.lines) zones

-- the zones as they were settled lead through time
settled_sound : (parts : Parts) (settled : List Zone) (db : Db) → db.sets ≡ parts.sets → AreSettledZones parts.sets parts.names parts.zones settled → whole_faults parts.sets (contents_given parts) ≡ [] → IsTrue (list_all (is_sound_zone db) settled)
settled_sound parts settled db sets are none =
    let contents = contents_given parts in
    let good = faultless parts.sets contents none in
    let written : map (written_zone (set_names db.sets)) settled ≡ contents.zones = rw sets are.written in
    zones_sound db settled (rw sets are.known) (rw written (zones_go_on parts.names parts.zones parts.continued)) (rw written good.finished) (rw (written, sets) good.timely)

pub is_built_of : (parts : Parts) (settled : List Zone) (placed : List Link) (reached : List (Option ℕ)) (db : Db) → IsSettledOf parts settled placed reached db → whole_faults parts.sets (contents_given parts) ≡ [] → IsBuiltOf (contents_given parts) parts.version db
is_built_of parts settled placed reached db is none =
    let contents = contents_given parts in
    let are = is.settled_are in
    let written : map (written_zone (set_names db.sets)) settled ≡ contents.zones = rw is.sets_are are.written in
    let places = alike_permuted own_zone (link_place contents db.zones) placed db.links is.links_are (links_placed parts db.zones placed reached is.written is.placed_are is.reached_are) in
    let sound = all_permuted (is_sound_zone db) settled db.zones is.zones_are (settled_sound parts settled db is.sets_are are none) in
    record {
      no_fault = rw is.sets_are none;
      version_is = is.version_is;
      sets = ap (map written_set) is.sets_are;
      zones = rw (← written) (IsPermutation-map (written_zone (set_names db.sets)) settled db.zones is.zones_are);
      links = rw (← is.written) (IsPermutation-map written_link placed db.links is.links_are);
      places = places;
      known = rw is.sets_are (all_permuted (λ (zone : Zone). list_all (λ (line : ZoneLine). is_known parts.sets line.rules) zone.lines) settled db.zones is.zones_are are.known);
      sound = and_from (list_all (is_sound_zone db) db.zones) (list_all (λ (link : Link). nat_lt link.zone (length db.zones)) db.links) sound (places_in contents db.zones db.links places);
    }
