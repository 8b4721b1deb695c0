-- Lines of zones that give their rule sets by the places of the sets.
use Rattle.std.proofs.Common.{◌≡◌, ℕ, ◌+◌, ◌<◌, Bool, true, false, IsTrue, List, [], ◌∷◌, length, map, get_or, set, take, drop, Option, Some, None, is_some, option_map, refl, sym, ap, ◌∙◌, arith}
use Rattle.std.specs.Prelude.{nat_lt}
use Rattle.std.proofs.lemmas.Bool.{and_from}
use Rattle.std.proofs.lemmas.Bool.Decides.{nat_tests}
use Rattle.std.specs.List.{list_all, find, slice_get}
use Rattle.std.specs.Option.{is_none}
use Rattle.std.proofs.lemmas.List.{map-append, get_or-drop, drop-drop, take_more, take_more_set, drop-set-lt}
use Rattle.std.proofs.lemmas.List.Folds.{list_all-append}
use Rattle.std.proofs.lemmas.List.Sums.{AllPass-from_list_all}
use Rattle.std.proofs.lemmas.Option.{slice_get-map, slice_get-get_or}
use Rattle.tz_types.specs.declared.rule_set.RuleSet.{RuleSet}
use Rattle.tz_types.specs.declared.zone_line.LineRules.{LineRules}
use Rattle.tz_types.specs.declared.zone_line.LineRules.TheVariants as rules
use Rattle.tz_types.specs.declared.zone_line.ZoneLine.{ZoneLine}
use Rattle.tz_specs.specs.Choice.{◌>>=◌}
use Rattle.tz_specs.specs.Until.{Rules}
use Rattle.tz_specs.specs.Value.{is_exactly}
use Rattle.tz_specs.specs.Written.{WrittenRules, NoRules, RulesNamed, set_names, written_rules, written_line}
use Rattle.tz_specs.specs.Whole.{following_in}
use Rattle.tz_specs.specs.Sound.{is_known}
use Rattle.tz_database.specs.Continued.{is_named_by}
use Rattle.tz_database.specs.SetPlace.{set_place_of}
use Rattle.tz_database.specs.Settled.{place_at, has_set, settled_rules, AreSettled}
use Rattle.tz_database.proofs.PlacesOfNames.{name_there, place_within, place_of_found}

abbrev name_of : RuleSet → List ℕ
name_of set = set.name

-- ---- a set by its place

abbrev written_at : List (List ℕ) → Option ℕ → WrittenRules
written_at names None = NoRules
written_at names (Some place) = written_rules names (rules.Set place)

same_name : (sets : List RuleSet) (name : List ℕ) (found : Option ℕ) → set_place_of sets name ≡ found → IsTrue (is_some found) → written_at (set_names sets) found ≡ RulesNamed name
same_name sets name None is some = cc
same_name sets name (Some place) is some = rw (name_there name_of sets name place is) refl

-- what a place of a name gives, by the name that is there
abbrev placed_name : List RuleSet → Option (List ℕ) → Option ℕ
placed_name sets found = option_map (set_place_of sets) found >>= λ place. place

place_by_name : (sets : List RuleSet) (names : List (List ℕ)) (place : ℕ) → place_at (map (set_place_of sets) names) place ≡ placed_name sets (slice_get names place)
place_by_name sets names place = rw (slice_get-map (set_place_of sets) names place) refl

-- the same rules are written
pub settled_written : (sets : List RuleSet) (names : List (List ℕ)) (it : LineRules) → IsTrue (has_set (map (set_place_of sets) names) it) → written_rules (set_names sets) (settled_rules (map (set_place_of sets) names) it) ≡ written_rules names it
settled_written sets names rules.Plain has = refl
settled_written sets names (rules.Fixed save daylight) has = refl
settled_written sets names (rules.Set place) has =
    by_name (slice_get names place) refl (rw (place_by_name sets names place) at has)
  where
    by_place : (found : Option ℕ) → place_at (map (set_place_of sets) names) place ≡ found → written_rules (set_names sets) (settled_rules (map (set_place_of sets) names) (rules.Set place)) ≡ written_at (set_names sets) found
    by_place None is = rw is refl
    by_place (Some there) is = rw is refl

    by_name : (found : Option (List ℕ)) → slice_get names place ≡ found → IsTrue (is_some (placed_name sets found)) → written_rules (set_names sets) (settled_rules (map (set_place_of sets) names) (rules.Set place)) ≡ written_rules names (rules.Set place)
    by_name None is some = cc
    by_name (Some name) is some =
        by_place (set_place_of sets name) (rw (place_by_name sets names place) (rw is refl)) ∙ (same_name sets name (set_place_of sets name) refl some ∙ rw is refl)

-- and their set is there
pub settled_known : (sets : List RuleSet) (names : List (List ℕ)) (it : LineRules) → IsTrue (has_set (map (set_place_of sets) names) it) → IsTrue (is_known sets (settled_rules (map (set_place_of sets) names) it))
settled_known sets names rules.Plain has = refl
settled_known sets names (rules.Fixed save daylight) has = refl
settled_known sets names (rules.Set place) has =
    by_name (slice_get names place) refl (rw (place_by_name sets names place) at has)
  where
    by_place : (name : List ℕ) (found : Option ℕ) → set_place_of sets name ≡ found → place_at (map (set_place_of sets) names) place ≡ found → IsTrue (is_some found) → IsTrue (is_known sets (settled_rules (map (set_place_of sets) names) (rules.Set place)))
    by_place name None is at some = cc
    by_place name (Some there) is at some =
        (let low = place_within name_of sets name there is in
        let within : nat_lt there (length sets) ≡ true = grind (arith, nat_tests) in
        rw at within)

    by_name : (found : Option (List ℕ)) → slice_get names place ≡ found → IsTrue (is_some (placed_name sets found)) → IsTrue (is_known sets (settled_rules (map (set_place_of sets) names) (rules.Set place)))
    by_name None is some = cc
    by_name (Some name) is some =
        by_place name (set_place_of sets name) refl (rw (place_by_name sets names place) (rw is refl)) some

-- a line whose set is known has a place for it
pub named_set : (sets : List RuleSet) (names : List (List ℕ)) (it : LineRules) → IsTrue (is_named_by (length names) it) → is_none (following_in sets (written_rules names it)) ≡ false → IsTrue (has_set (map (set_place_of sets) names) it)
named_set sets names rules.Plain named known = refl
named_set sets names (rules.Fixed save daylight) named known = refl
named_set sets names (rules.Set place) named known =
    let low : place < length names = grind (arith, nat_tests) in
    let name = get_or names place [] in
    let at : slice_get names place ≡ Some name = slice_get-get_or names place [] low in
    by_set name (find (λ (set : RuleSet). is_exactly set.name name) sets) refl at (rw at at known)
  where
    by_set : (name : List ℕ) (found : Option RuleSet) → find (λ (set : RuleSet). is_exactly set.name name) sets ≡ found → slice_get names place ≡ Some name → is_none (option_map Rules found) ≡ false → IsTrue (has_set (map (set_place_of sets) names) (rules.Set place))
    by_set name None is at some = cc
    by_set name (Some set) is at some =
        (let there = place_of_found (λ (set : RuleSet). is_exactly set.name name) sets set is in
        let placed : set_place_of sets name ≡ Some there.0 = there.1 in
        rw (place_by_name sets names place) (rw at (rw placed refl)))

-- ---- the lines of a zone, one after another

-- what is left of two lists alike begins alike
pub same_left : {X : Type 0} (xs ys : List X) (i : ℕ) (d : X) → drop i xs ≡ drop i ys → get_or xs i d ≡ get_or ys i d
same_left {X} xs ys i d same =
    let none : i + 0 ≡ i = omega arith in
    let one : get_or (drop i xs) 0 d ≡ get_or xs i d = rw none at (get_or-drop i xs 0 d) in
    let other : get_or (drop i ys) 0 d ≡ get_or ys i d = rw none at (get_or-drop i ys 0 d) in
    sym one ∙ (ap (λ (zs : List X). get_or zs 0 d) same ∙ other)

-- one more element is changed
pub left_after : {X : Type 0} (xs ys : List X) (i : ℕ) (x : X) → drop i xs ≡ drop i ys → drop (i + 1) (set xs i x) ≡ drop (i + 1) ys
left_after {X} xs ys i x same =
    drop-set-lt (i + 1) xs i x (omega arith) ∙ (sym (drop-drop 1 i xs) ∙ (ap (drop 1) same ∙ drop-drop 1 i ys))

-- what passes everywhere passes at a place
pub passes_at : {X : Type 0} (p : X → Bool) (xs : List X) (i : ℕ) (d : X) → IsTrue (list_all p xs) → i < length xs → IsTrue (p (get_or xs i d))
passes_at {X} p xs i d all low = AllPass-from_list_all p xs all i d low

-- one more line is settled
pub settled_more : (sets : List RuleSet) (names : List (List ℕ)) (lines items : List ZoneLine) (i : ℕ) (line after : ZoneLine) → i < length lines → i < length items → AreSettled sets names (take i lines) (take i items) → written_line (set_names sets) after ≡ written_line names (get_or lines i line) → IsTrue (is_known sets after.rules) → AreSettled sets names (take (i + 1) lines) (take (i + 1) (set items i after))
settled_more sets names lines items i line after low within so_far same known =
    record {
      written = rw (take_more_set items i after within, take_more lines i line low, map-append (written_line (set_names sets)) (take i items) (after ∷ []), map-append (written_line names) (take i lines) (get_or lines i line ∷ []), so_far.written, same) refl;
      known = rw (take_more_set items i after within, list_all-append (λ (line : ZoneLine). is_known sets line.rules) (take i items) (after ∷ [])) (and_from (list_all (λ (line : ZoneLine). is_known sets line.rules) (take i items)) (list_all (λ (line : ZoneLine). is_known sets line.rules) (after ∷ [])) so_far.known (and_from (is_known sets after.rules) true known refl));
    }
