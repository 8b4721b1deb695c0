-- Names of rule sets, with one more, and lines that give their places.
use Rattle.std.proofs.Common.{◌≡◌, ℕ, zero, suc, ◌+◌, ◌<◌, ◌≤◌, Bool, true, false, ◌||◌, nat_lt, IsTrue, List, [], ◌∷◌, ◌++◌, length, map, Some, None, Result, Ok, Err, IfOk, refl, ap, ◌∙◌, arith}
use Rattle.std.proofs.lemmas.Bool.{and_parts, and_from}
use Rattle.std.proofs.lemmas.Bool.Decides.{nat_tests}
use Rattle.std.specs.Result.{OnOk}
use Rattle.std.specs.List.{list_all, list_any, slice_get}
use Rattle.std.proofs.lemmas.List.{length-append}
use Rattle.std.proofs.lemmas.Slice.Eq.{bytes_eq-Decides}
use Rattle.tz_types.specs.declared.zone_line.LineRules.{LineRules}
use Rattle.tz_types.specs.declared.zone_line.LineRules.TheVariants as rules
use Rattle.tz_types.specs.declared.zone_line.ZoneLine.{ZoneLine}
use Rattle.tz_types.specs.declared.zone.Zone.{Zone}
use Rattle.tz_specs.specs.Value.{is_exactly}
use Rattle.tz_specs.specs.Written.{written_rules, written_line, written_zone}
use Rattle.tz_database.specs.Continued.{is_named_by}
use Rattle.tz_lines.specs.NameIndex.{name_position}
use Rattle.tz_lines.specs.SetNames.{with_set_name, AreBegun}
use Rattle.tz_lines.proofs.NameIndex.{not_there}

-- a name that is there, and one that isn't

there : (labels : List (List ℕ)) (place : ℕ) (name : List ℕ) → slice_get labels place ≡ Some name → list_any (λ label. is_exactly label name) labels ≡ true
there [] place name e = cc
there (label ∷ labels) zero name e =
    let same : is_exactly label name ≡ true = (bytes_eq-Decides label name).1 (cc e) in
    rw same refl
there (label ∷ labels) (suc place) name e = or_later (is_exactly label name) (there labels place name e)
  where
    or_later : (here : Bool) → list_any (λ label. is_exactly label name) labels ≡ true → (here || list_any (λ label. is_exactly label name) labels) ≡ true
    or_later true later = refl
    or_later false later = later

pub known_kept : (labels : List (List ℕ)) (place : ℕ) (name : List ℕ) → slice_get labels place ≡ Some name → labels ≡ with_set_name name labels
known_kept labels place name e = rw (there labels place name e) refl

pub new_pushed : (labels : List (List ℕ)) (name : List ℕ) → name_position name labels ≡ None → labels ++ name ∷ [] ≡ with_set_name name labels
new_pushed labels name e = rw (not_there labels name e) refl

-- the place of the last
pub last_there : (labels : List (List ℕ)) (name : List ℕ) → slice_get (labels ++ name ∷ []) (length labels) ≡ Some name
last_there [] name = refl
last_there (label ∷ labels) name = last_there labels name

-- the place of a name that was added
pub added_place : {E : Type 0} (told : Result ℕ E) (labels others : List (List ℕ)) (name : List ℕ) → IfOk told (λ place. place ≡ length labels) → OnOk told (others ≡ labels ++ name ∷ []) → IfOk told (λ place. slice_get others place ≡ Some name)
added_place (Ok place) labels others name last more = rw (last, more) (last_there labels name)
added_place (Err error) labels others name last more = tt

-- a name at a place is still there, when more come

still_there : {X : Type 0} (xs more : List X) (place : ℕ) → place < length xs → slice_get (xs ++ more) place ≡ slice_get xs place
still_there [] more place within = absurd (omega arith)
still_there (x ∷ xs) more zero within = refl
still_there (x ∷ xs) more (suc place) within = still_there xs more place (omega arith)

below : (place count : ℕ) → IsTrue (nat_lt place count) → place < count
below place count h = grind (arith, nat_tests)

rules_still : (names more : List (List ℕ)) (given : LineRules) → IsTrue (is_named_by (length names) given) → written_rules (names ++ more) given ≡ written_rules names given
rules_still names more rules.Plain named = refl
rules_still names more (rules.Fixed save daylight) named = refl
rules_still names more (rules.Set place) named =
    rw (still_there names more place (below place (length names) named)) refl

-- so lines and zones are written as before

lines_still : (names more : List (List ℕ)) (lines : List ZoneLine) → IsTrue (list_all (λ (line : ZoneLine). is_named_by (length names) line.rules) lines) → map (written_line (names ++ more)) lines ≡ map (written_line names) lines
lines_still names more [] named = refl
lines_still names more (line ∷ lines) named =
    let parts = and_parts (is_named_by (length names) line.rules) (list_all (λ (it : ZoneLine). is_named_by (length names) it.rules) lines) named in
    rw (rules_still names more line.rules parts.0, lines_still names more lines parts.1) refl

zones_still : (names more : List (List ℕ)) (zones : List Zone) → IsTrue (list_all (λ (zone : Zone). list_all (λ (line : ZoneLine). is_named_by (length names) line.rules) zone.lines) zones) → map (written_zone (names ++ more)) zones ≡ map (written_zone names) zones
zones_still names more [] named = refl
zones_still names more (zone ∷ zones) named =
    let parts = and_parts (list_all (λ (line : ZoneLine). is_named_by (length names) line.rules) zone.lines) (list_all (λ (it : Zone). list_all (λ (line : ZoneLine). is_named_by (length names) line.rules) it.lines) zones) named in
    rw (lines_still names more zone.lines parts.0, zones_still names more zones parts.1) refl

pub zones_with_names : (names others : List (List ℕ)) (zones : List Zone) → AreBegun names others → IsTrue (list_all (λ (zone : Zone). list_all (λ (line : ZoneLine). is_named_by (length names) line.rules) zone.lines) zones) → map (written_zone others) zones ≡ map (written_zone names) zones
zones_with_names names others zones begun named = rw begun.1 (zones_still names begun.0 zones named)

-- and give places of names

rules_below : (few many : ℕ) (given : LineRules) → few ≤ many → IsTrue (is_named_by few given) → IsTrue (is_named_by many given)
rules_below few many rules.Plain more named = refl
rules_below few many (rules.Fixed save daylight) more named = refl
rules_below few many (rules.Set place) more named = grind (arith, nat_tests)

lines_below : (few many : ℕ) (lines : List ZoneLine) → few ≤ many → IsTrue (list_all (λ (line : ZoneLine). is_named_by few line.rules) lines) → IsTrue (list_all (λ (line : ZoneLine). is_named_by many line.rules) lines)
lines_below few many [] more named = refl
lines_below few many (line ∷ lines) more named =
    let parts = and_parts (is_named_by few line.rules) (list_all (λ (it : ZoneLine). is_named_by few it.rules) lines) named in
    and_from (is_named_by many line.rules) (list_all (λ (it : ZoneLine). is_named_by many it.rules) lines) (rules_below few many line.rules more parts.0) (lines_below few many lines more parts.1)

zones_below : (few many : ℕ) (zones : List Zone) → few ≤ many → IsTrue (list_all (λ (zone : Zone). list_all (λ (line : ZoneLine). is_named_by few line.rules) zone.lines) zones) → IsTrue (list_all (λ (zone : Zone). list_all (λ (line : ZoneLine). is_named_by many line.rules) zone.lines) zones)
zones_below few many [] more named = refl
zones_below few many (zone ∷ zones) more named =
    let parts = and_parts (list_all (λ (line : ZoneLine). is_named_by few line.rules) zone.lines) (list_all (λ (it : Zone). list_all (λ (line : ZoneLine). is_named_by few line.rules) it.lines) zones) named in
    and_from (list_all (λ (line : ZoneLine). is_named_by many line.rules) zone.lines) (list_all (λ (it : Zone). list_all (λ (line : ZoneLine). is_named_by many line.rules) it.lines) zones) (lines_below few many zone.lines more parts.0) (zones_below few many zones more parts.1)

pub named_with_names : (names others : List (List ℕ)) (zones : List Zone) → AreBegun names others → IsTrue (list_all (λ (zone : Zone). list_all (λ (line : ZoneLine). is_named_by (length names) line.rules) zone.lines) zones) → IsTrue (list_all (λ (zone : Zone). list_all (λ (line : ZoneLine). is_named_by (length others) line.rules) zone.lines) zones)
named_with_names names others zones begun named =
    let count : length others ≡ length names + length begun.0 = ap length begun.1 ∙ length-append names begun.0 in
    zones_below (length names) (length others) zones (omega arith) named
