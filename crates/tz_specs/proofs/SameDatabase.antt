-- What is written of the zones and links of a database tells databases apart.
use Rattle.std.proofs.Common.{◌≡◌, ℕ, zero, suc, ◌<◌, ◌≤◌, Bool, IsTrue, List, [], ◌∷◌, length, map, Option, Some, slice_get, position, refl, sym, ap, ◌∙◌, arith}
use mathlib.Core.HLevel.{is_prop→PathP}
use Rattle.std.proofs.Props.{props}
use Rattle.std.specs.List.{list_all}
use Rattle.std.specs.List.Sorted.{IsPermutation}
use Rattle.std.proofs.lemmas.List.Sorted.{Contains-permutation, IsPermutation-sym}
use Rattle.std.proofs.lemmas.Bool.Decides.{nat_tests}
use Rattle.tz_types.specs.Amount.{IsShift}
use Rattle.tz_types.specs.Format.{is_format}
use Rattle.tz_types.specs.Saves.{is_fixed_save}
use Rattle.tz_types.specs.Order.{ascends, name_before}
use Rattle.tz_types.specs.declared.limit.TheConstants.{MOST_SETS, MOST_ZONES, MOST_ZONE_LINES, MOST_LINKS}
use Rattle.tz_types.specs.declared.rule_set.RuleSet.{RuleSet}
use Rattle.tz_types.specs.declared.zone_line.LineRules.{LineRules}
use Rattle.tz_types.specs.declared.zone_line.LineRules.TheVariants as line_rules
use Rattle.tz_types.specs.declared.zone_line.ZoneLine.{ZoneLine}
use Rattle.tz_types.specs.declared.zone.Zone.{Zone}
use Rattle.tz_types.specs.declared.link.Link.{Link}
use Rattle.tz_types.specs.declared.database.Db.{Db}
use Rattle.tz_types.specs.declared.source.Source.{Source}
use Rattle.tz_specs.specs.Choice.{◌>>=◌}
use Rattle.tz_specs.specs.Sound.{is_known}
use Rattle.tz_specs.specs.Value.{is_exactly}
use Rattle.tz_specs.specs.Written.{WrittenLine, WrittenZone, WrittenLink, NoRules, FixedSave, RulesNamed, written_rules, written_line, written_zone, written_link, set_names}
use Rattle.tz_specs.specs.Contents.{Contents}
use Rattle.tz_specs.specs.Whole.{zone_of_link}
use Rattle.tz_specs.specs.Reads.{Reads, places_of_links}
use Rattle.tz_specs.proofs.Sameness.{same_sets, same_ends}
use Rattle.tz_specs.proofs.AscendingLemmas.{both_hold, same_ascending, one_place}
use Rattle.tz_specs.proofs.TextLemmas.{same_contents}

-- a place below the end has an element
there : {X : Type 0} (xs : List X) (place : ℕ) → place < length xs → (x : X) × (slice_get xs place ≡ Some x)
there [] place below = absurd (omega (arith, below))
there (x ∷ xs) zero below = (x, refl)
there (x ∷ xs) (suc place) below = there xs place (omega (arith, below))

named : (names : List (List ℕ)) (place : ℕ) (name : List ℕ) → slice_get names place ≡ Some name → written_rules names (line_rules.Set place) ≡ RulesNamed name
named names place name h = rw h refl

-- rules that are known are told apart by what is written
same_line_rules : (names : List (List ℕ)) (a b : LineRules) → IsTrue (ascends name_before (map (λ x. x) names)) → (known : LineRules → Bool) → ((place : ℕ) → IsTrue (known (line_rules.Set place)) → place < length names) → IsTrue (known a) → IsTrue (known b) → written_rules names a ≡ written_rules names b → a ≡ b
same_line_rules names line_rules.Plain line_rules.Plain ascend known below first second h = refl
same_line_rules names line_rules.Plain (line_rules.Fixed save daylight) ascend known below first second h = cc
same_line_rules names line_rules.Plain (line_rules.Set place) ascend known below first second h =
    let it = there names place (below place second) in
    let is = named names place it.0 it.1 in
    let bad : NoRules ≡ RulesNamed it.0 = h ∙ is in cc
same_line_rules names (line_rules.Fixed save daylight) line_rules.Plain ascend known below first second h = cc
same_line_rules names (line_rules.Fixed save daylight) (line_rules.Fixed other also) ascend known below first second h =
    cc
same_line_rules names (line_rules.Fixed save daylight) (line_rules.Set place) ascend known below first second h =
    let it = there names place (below place second) in
    let is = named names place it.0 it.1 in
    let bad : FixedSave save daylight ≡ RulesNamed it.0 = h ∙ is in cc
same_line_rules names (line_rules.Set place) line_rules.Plain ascend known below first second h =
    let it = there names place (below place first) in
    let is = named names place it.0 it.1 in
    let bad : RulesNamed it.0 ≡ NoRules = sym is ∙ h in cc
same_line_rules names (line_rules.Set place) (line_rules.Fixed save daylight) ascend known below first second h =
    let it = there names place (below place first) in
    let is = named names place it.0 it.1 in
    let bad : RulesNamed it.0 ≡ FixedSave save daylight = sym is ∙ h in cc
same_line_rules names (line_rules.Set place) (line_rules.Set other) ascend known below first second h =
    let it = there names place (below place first) in
    let also = there names other (below other second) in
    let both : RulesNamed it.0 ≡ RulesNamed also.0 = sym (named names place it.0 it.1) ∙ h ∙ named names other also.0 also.1 in
    let name : it.0 ≡ also.0 = cc in
    ap line_rules.Set (one_place names place other it.0 ascend it.1 (also.1 ∙ ap Some (sym name)))

set_below : (sets : List RuleSet) (place : ℕ) → IsTrue (is_known sets (line_rules.Set place)) → place < length (set_names sets)
set_below sets place h = let count : length (set_names sets) ≡ length sets = names_length sets in grind (arith, nat_tests)
  where
    names_length : (sets : List RuleSet) → length (set_names sets) ≡ length sets
    names_length [] = refl
    names_length (set ∷ sets) = ap suc (names_length sets)

same_line : (sets : List RuleSet) (a b : ZoneLine) → IsTrue (ascends name_before (map (λ x. x) (set_names sets))) → IsTrue (is_known sets a.rules) → IsTrue (is_known sets b.rules) → written_line (set_names sets) a ≡ written_line (set_names sets) b → a ≡ b
same_line sets a b ascend first second h =
    let stdoff : a.stdoff ≡ b.stdoff = ap (λ (it : WrittenLine). it.stdoff) h in
    let rules : a.rules ≡ b.rules = same_line_rules (set_names sets) a.rules b.rules ascend (is_known sets) (set_below sets) first second (ap (λ (it : WrittenLine). it.rules) h) in
    let format : a.format ≡ b.format = ap (λ (it : WrittenLine). it.format) h in
    let until : a.until ≡ b.until = same_ends a.until b.until (ap (λ (it : WrittenLine). it.until) h) in
    let line : a.line ≡ b.line = ap (λ (it : WrittenLine). it.line) h in
    λ i. record {
      stdoff = stdoff i;
      rules = rules i;
      format = format i;
      until = until i;
      line = line i;
      stdoff_in = is_prop→PathP (λ j. IsShift (stdoff j)) (λ j. hlevel props) a.stdoff_in b.stdoff_in i;
      save_in = is_prop→PathP (λ j. IsTrue (is_fixed_save (rules j))) (λ j. hlevel props) a.save_in b.save_in i;
      format_in = is_prop→PathP (λ j. IsTrue (is_format (format j))) (λ j. hlevel props) a.format_in b.format_in i;
    }

same_lines : (sets : List RuleSet) (ones others : List ZoneLine) → IsTrue (ascends name_before (map (λ x. x) (set_names sets))) → IsTrue (list_all (λ line. is_known sets line.rules) ones) → IsTrue (list_all (λ line. is_known sets line.rules) others) → map (written_line (set_names sets)) ones ≡ map (written_line (set_names sets)) others → ones ≡ others
same_lines sets [] [] ascend first second h = refl
same_lines sets [] (b ∷ others) ascend first second h = cc
same_lines sets (a ∷ ones) [] ascend first second h = cc
same_lines sets (a ∷ ones) (b ∷ others) ascend first second h =
    let here = both_hold (is_known sets a.rules) (list_all (λ line. is_known sets line.rules) ones) first in
    let there = both_hold (is_known sets b.rules) (list_all (λ line. is_known sets line.rules) others) second in
    let head : a ≡ b = same_line sets a b ascend here.0 there.0 cc in
    let tail : ones ≡ others = same_lines sets ones others ascend here.1 there.1 cc in
    λ i. head i ∷ tail i

same_zone : (sets : List RuleSet) (a b : Zone) → IsTrue (ascends name_before (map (λ x. x) (set_names sets))) → IsTrue (list_all (λ line. is_known sets line.rules) a.lines) → IsTrue (list_all (λ line. is_known sets line.rules) b.lines) → written_zone (set_names sets) a ≡ written_zone (set_names sets) b → a ≡ b
same_zone sets a b ascend first second h =
    let name : a.name ≡ b.name = ap (λ (it : WrittenZone). it.name) h in
    let lines : a.lines ≡ b.lines = same_lines sets a.lines b.lines ascend first second (ap (λ (it : WrittenZone). it.lines) h) in
    λ i.
    record {
      name = name i;
      lines = lines i;
      some_line = is_prop→PathP (λ j. 1 ≤ length (lines j)) (λ j. hlevel props) a.some_line b.some_line i;
      few_lines = is_prop→PathP (λ j. length (lines j) ≤ MOST_ZONE_LINES) (λ j. hlevel props) a.few_lines b.few_lines i;
    }

-- all zones know the rule sets of their lines
abbrev are_known : List RuleSet → List Zone → Bool
are_known sets zones = list_all (λ zone. list_all (λ line. is_known sets line.rules) zone.lines) zones

same_zones : (sets : List RuleSet) (ones others : List Zone) → IsTrue (ascends name_before (map (λ x. x) (set_names sets))) → IsTrue (are_known sets ones) → IsTrue (are_known sets others) → map (written_zone (set_names sets)) ones ≡ map (written_zone (set_names sets)) others → ones ≡ others
same_zones sets [] [] ascend first second h = refl
same_zones sets [] (b ∷ others) ascend first second h = cc
same_zones sets (a ∷ ones) [] ascend first second h = cc
same_zones sets (a ∷ ones) (b ∷ others) ascend first second h =
    let here = both_hold (list_all (λ line. is_known sets line.rules) a.lines) (are_known sets ones) first in
    let there = both_hold (list_all (λ line. is_known sets line.rules) b.lines) (are_known sets others) second in
    let head : a ≡ b = same_zone sets a b ascend here.0 there.0 cc in
    let tail : ones ≡ others = same_zones sets ones others ascend here.1 there.1 cc in
    λ i. head i ∷ tail i

map_map : {X Y Z : Type 0} (f : X → Y) (g : Y → Z) (xs : List X) → map g (map f xs) ≡ map (λ x. g (f x)) xs
map_map f g [] = refl
map_map f g (x ∷ xs) = let later = map_map f g xs in λ i. g (f x) ∷ later i

-- permutations of one list, both in the order of their names, are one
same_order : (written ones others : List WrittenZone) → IsPermutation written ones → IsPermutation written others → IsTrue (ascends name_before (map (λ it. it.name) ones)) → IsTrue (ascends name_before (map (λ it. it.name) others)) → ones ≡ others
same_order written ones others first second ascend also =
    same_ascending (λ (it : WrittenZone). it.name) ones others ascend also
    (λ z is. Contains-permutation written others z second (Contains-permutation ones written z (IsPermutation-sym written ones first) is))
    (λ z is. Contains-permutation written ones z first (Contains-permutation others written z (IsPermutation-sym written others second) is))

same_link_order : (written ones others : List WrittenLink) → IsPermutation written ones → IsPermutation written others → IsTrue (ascends name_before (map (λ it. it.name) ones)) → IsTrue (ascends name_before (map (λ it. it.name) others)) → ones ≡ others
same_link_order written ones others first second ascend also =
    same_ascending (λ (it : WrittenLink). it.name) ones others ascend also
    (λ z is. Contains-permutation written others z second (Contains-permutation ones written z (IsPermutation-sym written ones first) is))
    (λ z is. Contains-permutation written ones z first (Contains-permutation others written z (IsPermutation-sym written others second) is))

same_link : (a b : Link) → written_link a ≡ written_link b → a.zone ≡ b.zone → a ≡ b
same_link a b h zone =
    let name : a.name ≡ b.name = ap (λ (it : WrittenLink). it.name) h in
    let target : a.target ≡ b.target = ap (λ (it : WrittenLink). it.target) h in
    let line : a.line ≡ b.line = ap (λ (it : WrittenLink). it.line) h in
    λ i. record { name = name i; target = target i; zone = zone i; line = line i }

same_links : (ones others : List Link) → map written_link ones ≡ map written_link others → map (λ link. Some link.zone) ones ≡ map (λ link. Some link.zone) others → ones ≡ others
same_links [] [] h zones = refl
same_links [] (b ∷ others) h zones = cc
same_links (a ∷ ones) [] h zones = cc
same_links (a ∷ ones) (b ∷ others) h zones =
    let here : written_link a ≡ written_link b = cc in
    let there : a.zone ≡ b.zone = cc in
    let later : map written_link ones ≡ map written_link others = cc in
    let places : map (λ (link : Link). Some link.zone) ones ≡ map (λ (link : Link). Some link.zone) others = cc in
    let head : a ≡ b = same_link a b here there in
    let tail : ones ≡ others = same_links ones others later places in
    λ i. head i ∷ tail i

same_db : (a b : Db) → a.version ≡ b.version → a.sets ≡ b.sets → a.zones ≡ b.zones → a.links ≡ b.links → a ≡ b
same_db a b version sets zones links =
    λ i. record {
      version = version i;
      sets = sets i;
      zones = zones i;
      links = links i;
      sets_ascend = is_prop→PathP (λ j. IsTrue (ascends name_before (map (λ set. set.name) (sets j)))) (λ j. hlevel props) a.sets_ascend b.sets_ascend i;
      zones_ascend = is_prop→PathP (λ j. IsTrue (ascends name_before (map (λ zone. zone.name) (zones j)))) (λ j. hlevel props) a.zones_ascend b.zones_ascend i;
      links_ascend = is_prop→PathP (λ j. IsTrue (ascends name_before (map (λ link. link.name) (links j)))) (λ j. hlevel props) a.links_ascend b.links_ascend i;
      few_sets = is_prop→PathP (λ j. length (sets j) ≤ MOST_SETS) (λ j. hlevel props) a.few_sets b.few_sets i;
      few_zones = is_prop→PathP (λ j. length (zones j) ≤ MOST_ZONES) (λ j. hlevel props) a.few_zones b.few_zones i;
      few_links = is_prop→PathP (λ j. length (links j) ≤ MOST_LINKS) (λ j. hlevel props) a.few_links b.few_links i;
    }

zones_in_order : (db : Db) → IsTrue (ascends name_before (map (λ it. it.name) (map (written_zone (set_names db.sets)) db.zones)))
zones_in_order db = rw (map_map (written_zone (set_names db.sets)) (λ (it : WrittenZone). it.name) db.zones) db.zones_ascend

links_in_order : (db : Db) → IsTrue (ascends name_before (map (λ it. it.name) (map written_link db.links)))
links_in_order db = rw (map_map written_link (λ (it : WrittenLink). it.name) db.links) db.links_ascend

names_in_order : (db : Db) → IsTrue (ascends name_before (map (λ x. x) (set_names db.sets)))
names_in_order db = rw (map_map (λ (it : RuleSet). it.name) (λ x. x) db.sets) db.sets_ascend

-- the place of the zone to which a link leads, as the link is written
abbrev place_of : Contents → List Zone → WrittenLink → Option ℕ
place_of contents zones link = zone_of_link contents link >>= λ name. position (λ zone. is_exactly zone.name name) zones

places-are : (contents : Contents) (db : Db) → places_of_links contents db ≡ map (place_of contents db.zones) (map written_link db.links)
places-are contents db = sym (map_map written_link (place_of contents db.zones) db.links)

-- a source is read as one database
pub one_database : (source : Source) (a b : Db) → Reads source a → Reads source b → a ≡ b
one_database source a b first second =
    let contents = same_contents source.files first.contents second.contents first.given second.given in
    let version = first.version ∙ sym second.version in
    let sets = same_sets a.sets b.sets (first.sets ∙ ap (λ (it : Contents). it.sets) contents ∙ sym second.sets) in
    let written = same_order first.contents.zones (map (written_zone (set_names a.sets)) a.zones) (map (written_zone (set_names b.sets)) b.zones) first.zones (rw contents second.zones) (zones_in_order a) (zones_in_order b) in
    let zones : a.zones ≡ b.zones = same_zones a.sets a.zones b.zones (names_in_order a) first.known (rw sets second.known) (written ∙ ap (λ sets. map (written_zone (set_names sets)) b.zones) (sym sets)) in
    let names = same_link_order first.contents.links (map written_link a.links) (map written_link b.links) first.links (rw contents second.links) (links_in_order a) (links_in_order b) in
    let places : map (λ (link : Link). Some link.zone) a.links ≡ map (λ (link : Link). Some link.zone) b.links =
    first.places ∙ places-are first.contents a ∙ (λ i. map (place_of (contents i) (zones i)) (names i)) ∙ sym (places-are second.contents b) ∙ sym second.places in
    same_db a b version sets zones (same_links a.links b.links names places)
