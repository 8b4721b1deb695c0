-- Zones, and links, that stand one after another, and of which none has the name of an earlier one, have different names.
use Rattle.std.proofs.Common.{◌≡◌, ◌≢◌, ℕ, zero, suc, ◌+◌, ◌<◌, ◌≤◌, true, nat_lt, ◌&&◌, IsTrue, List, [], ◌∷◌, ◌++◌, length, get_or, map, Some, None, refl, sym, ap, ◌∙◌, arith}
use Rattle.std.proofs.lemmas.Bool.{and_parts, false≢true}
use Rattle.std.specs.List.{list_all, list_any, filter_map, AllPairs}
use Rattle.std.proofs.lemmas.Bool.Decides.{nat_tests}
use Rattle.std.proofs.lemmas.List.{get_or-map, length-map, length-append, get_or_append_left, get_or-append-add}
use Rattle.std.proofs.lemmas.List.Folds.{list_any_at}
use Rattle.std.proofs.lemmas.Simd.{map-map}
use Rattle.std.proofs.lemmas.Slice.Eq.{bytes_eq-Decides}
use Rattle.tz_types.specs.Order.{ascends, ascends_after}
use Rattle.tz_types.specs.declared.cause.Cause.TheVariants as causes
use Rattle.tz_types.specs.declared.zone_line.ZoneLine.{ZoneLine}
use Rattle.tz_types.specs.declared.zone.Zone.{Zone}
use Rattle.tz_types.specs.declared.link.Link.{Link}
use Rattle.tz_specs.specs.Value.{is_exactly}
use Rattle.tz_specs.specs.Written.{WrittenLink, written_line, written_zone, written_link}
use Rattle.tz_specs.specs.Whole.{zone_name, names_given, repeated_name}
use Rattle.tz_database.specs.Continued.{are_continued}
use Rattle.tz_database.specs.LineOrder.{begin_in_order, link_in_order}
use Rattle.tz_database.specs.Parts.{contents_given}
use Rattle.tz_database.specs.declared.parts.Parts.{Parts}
use Rattle.tz_database.proofs.Ascending.{rest_ascends}
use Rattle.tz_database.proofs.Faultless.{none_at, no_fault}

abbrev name_of : List ℕ × ℕ → List ℕ
name_of here = here.0

abbrev line_of : List ℕ × ℕ → ℕ
line_of here = here.1

-- ---- numbers that ascend are greater at later places

above_first : (low : ℕ) (numbers : List ℕ) (k : ℕ) → IsTrue (ascends_after nat_lt low numbers) → k < length numbers → low < get_or numbers k 0
above_first low [] k ascend within = absurd (omega arith)
above_first low (number ∷ numbers) zero ascend within =
    let first = (and_parts (nat_lt low number) (ascends_after nat_lt number numbers) ascend).0 in
    grind (arith, nat_tests)
above_first low (number ∷ numbers) (suc k) ascend within =
    let first = (and_parts (nat_lt low number) (ascends_after nat_lt number numbers) ascend).0 in
    let later = above_first number numbers k (and_parts (nat_lt low number) (ascends_after nat_lt number numbers) ascend).1 (omega arith) in
    grind (arith, nat_tests)

later_greater : (numbers : List ℕ) (i j : ℕ) → IsTrue (ascends nat_lt numbers) → i < j → j < length numbers → get_or numbers i 0 < get_or numbers j 0
later_greater [] i j ascend before within = absurd (omega arith)
later_greater (number ∷ numbers) i zero ascend before within = absurd (omega arith)
later_greater (number ∷ numbers) zero (suc j) ascend before within = above_first number numbers j ascend (omega arith)
later_greater (number ∷ numbers) (suc i) (suc j) ascend before within =
    later_greater numbers i j (rest_ascends nat_lt number numbers ascend) (omega arith) (omega arith)

-- ---- a part of the names that are given, from a place on, in the order of their lines

record IsPart (names all : List (List ℕ × ℕ)) (from : ℕ) : Type 0 where
  within : from + length names ≤ length all
  at : (k : ℕ) (d : List ℕ × ℕ) → k < length names → get_or all (from + k) d ≡ get_or names k d

given_before : (a b : List ℕ) (line later : ℕ) → a ≡ b → line < later → (is_exactly a b && nat_lt line later) ≡ true
given_before a b line later same below =
    let equal : is_exactly a b ≡ true = (bytes_eq-Decides a b).1 same in
    rw equal (grind (arith, nat_tests))

apart_by_lines : (names all : List (List ℕ × ℕ)) (from : ℕ) → IsPart names all from → IsTrue (ascends nat_lt (map line_of names)) → filter_map (repeated_name all) all ≡ [] → AllPairs ◌≢◌ (map name_of names)
apart_by_lines names all from part ascend none i j d before within same =
    let end : List ℕ × ℕ = (d, 0) in
    let total : length (map name_of names) ≡ length names = length-map names name_of in
    let lines_total : length (map line_of names) ≡ length names = length-map names line_of in
    let enough = part.within in
    let low : j < length names = omega arith in
    let first : i < length names = omega arith in
    let name_i : get_or (map name_of names) i d ≡ (get_or names i end).0 = get_or-map name_of names i end d first in
    let name_j : get_or (map name_of names) j d ≡ (get_or names j end).0 = get_or-map name_of names j end d low in
    let line_i : get_or (map line_of names) i 0 ≡ (get_or names i end).1 = get_or-map line_of names i end 0 first in
    let line_j : get_or (map line_of names) j 0 ≡ (get_or names j end).1 = get_or-map line_of names j end 0 low in
    let less : (get_or names i end).1 < (get_or names j end).1 =
    rw (← line_i) (rw (← line_j) (later_greater (map line_of names) i j ascend before (omega arith))) in
    let equal : (get_or names i end).0 ≡ (get_or names j end).0 = sym name_i ∙ same ∙ name_j in
    let here = get_or names j end in
    let one = given_before (get_or names i end).0 here.0 (get_or names i end).1 here.1 equal less in
    let any : list_any (λ (other : List ℕ × ℕ). is_exactly other.0 here.0 && nat_lt other.1 here.1) all ≡ true =
    list_any_at (λ (other : List ℕ × ℕ). is_exactly other.0 here.0 && nat_lt other.1 here.1) all (from + i) end (omega arith) (rw (part.at i end first) one) in
    let none_j : repeated_name all here ≡ None = rw (part.at j end low) at (none_at (repeated_name all) all (from + j) end none (omega arith)) in
    false≢true (sym (no_fault true here.1 causes.DuplicateName (rw any at none_j)))

front : (names others : List (List ℕ × ℕ)) → IsPart names (names ++ others) 0
front names others = record {
  within = (let all = length-append names others in omega arith);
  at = λ k d low. (let none : 0 + k ≡ k = omega arith in rw none (get_or_append_left names others d k low));
}

back : (names others : List (List ℕ × ℕ)) → IsPart names (others ++ names) (length others)
back names others = record {
  within = (let all = length-append others names in omega arith);
  at = λ k d low. get_or-append-add others names k d;
}

-- ---- the zones

has_name : (given : List (List ℕ)) (name : List ℕ) (lines : List ZoneLine) → IsTrue (are_continued lines) → (line : ℕ) × (zone_name (record { name = name; lines = map (written_line given) lines }) ≡ Some (name, line))
has_name given name [] continued = cc
has_name given name (line ∷ lines) continued = (line.line, refl)

names_of_zones : (given : List (List ℕ)) (zones : List Zone) → IsTrue (list_all (λ (zone : Zone). are_continued zone.lines) zones) → map name_of (filter_map zone_name (map (written_zone given) zones)) ≡ map (λ (zone : Zone). zone.name) zones
names_of_zones given [] continued = refl
names_of_zones given (zone ∷ zones) continued =
    let both = and_parts (are_continued zone.lines) (list_all (λ (zone : Zone). are_continued zone.lines) zones) continued in
    let named = has_name given zone.name zone.lines both.0 in
    rw named.1 (ap (λ (rest : List (List ℕ)). zone.name ∷ rest) (names_of_zones given zones both.1))

pub zones_apart : (parts : Parts) → IsTrue (begin_in_order (contents_given parts)) → filter_map (repeated_name (names_given (contents_given parts))) (names_given (contents_given parts)) ≡ [] → AllPairs ◌≢◌ (map (λ (zone : Zone). zone.name) parts.zones)
zones_apart parts in_order none =
    let zones = filter_map zone_name (map (written_zone parts.names) parts.zones) in
    let links = map (λ (link : WrittenLink). (link.name, link.line)) (map written_link parts.links) in
    rw (← names_of_zones parts.names parts.zones parts.continued) (apart_by_lines zones (zones ++ links) 0 (front zones links) in_order none)

-- ---- the links

pub links_apart : (parts : Parts) → IsTrue (link_in_order (contents_given parts)) → filter_map (repeated_name (names_given (contents_given parts))) (names_given (contents_given parts)) ≡ [] → AllPairs ◌≢◌ (map (λ (link : Link). link.name) parts.links)
links_apart parts in_order none =
    let zones = filter_map zone_name (map (written_zone parts.names) parts.zones) in
    let given : WrittenLink → List ℕ × ℕ = λ link. (link.name, link.line) in
    let written = map written_link parts.links in
    let lines : map line_of (map given written) ≡ map (λ (link : WrittenLink). link.line) written = map-map line_of given written in
    let names : map name_of (map given written) ≡ map (λ (link : Link). link.name) parts.links = map-map name_of given written ∙ map-map (λ (link : WrittenLink). link.name) written_link parts.links in
    rw (← names) (apart_by_lines (map given written) (zones ++ map given written) (length zones) (back (map given written) zones) (rw lines in_order) none)
