-- The zone that a name stands for, by the compiled zones and the links.
use Rattle.std.proofs.Common.{◌≡◌, ℕ, ◌<◌, true, false, cond, nat_lt, IsTrue, List, [], ◌∷◌, length, map, find, Option, Some, None, option_map, refl, ⊎_elim, arith}
use Rattle.std.specs.List.{AllZip, list_all, position_or_len}
use Rattle.std.proofs.lemmas.Bool.{cases_Bool, and_parts}
use Rattle.std.proofs.lemmas.Bool.Decides.{nat_tests}
use Rattle.std.proofs.lemmas.Slice.Zip.{AllZip-long}
use Rattle.tz_types.specs.Order.{ascends, name_before}
use Rattle.tz_types.specs.declared.link.Link.{Link}
use Rattle.tz_types.specs.declared.zone.Zone.{Zone}
use Rattle.tz_types.specs.declared.database.Db.{Db}
use Rattle.tz_specs.specs.Day.{or_else}
use Rattle.tz_specs.specs.Sound.{is_sound, is_sound_zone}
use Rattle.tz_lines.specs.Locate.{is_zone_named, is_link_named, located}
use Rattle.tz_expand.specs.declared.compiled_zone.CompiledZone.{CompiledZone}
use Rattle.tz_expand.specs.Zone.{IsCompiled}
use Rattle.tz_version.specs.Search.{is_compiled_named, place_called}

-- compiled zones bear the names of their zones
names_kept : (db : Db) (zones : List Zone) (compiled : List CompiledZone) → AllZip (IsCompiled db) zones compiled → map (λ (zone : CompiledZone). zone.name) compiled ≡ map (λ (zone : Zone). zone.name) zones
names_kept db [] [] zip = refl
names_kept db [] (one ∷ compiled) zip = absurd zip
names_kept db (zone ∷ zones) [] zip = absurd zip
names_kept db (zone ∷ zones) (one ∷ compiled) zip =
    let here = zip.0.name in
    let later = names_kept db zones compiled zip.1 in
    rw (here, later) refl

pub compiled_ascend : (db : Db) (compiled : List CompiledZone) → AllZip (IsCompiled db) db.zones compiled → IsTrue (ascends name_before (map (λ (zone : CompiledZone). zone.name) compiled))
compiled_ascend db compiled zip = rw (names_kept db db.zones compiled zip) db.zones_ascend

-- so that a name has one place among both
same_prefix : (db : Db) (name : List ℕ) (zones : List Zone) (compiled : List CompiledZone) → AllZip (IsCompiled db) zones compiled → position_or_len (is_compiled_named name) compiled ≡ position_or_len (is_zone_named name) zones
same_prefix db name [] [] zip = refl
same_prefix db name [] (one ∷ compiled) zip = absurd zip
same_prefix db name (zone ∷ zones) [] zip = absurd zip
same_prefix db name (zone ∷ zones) (one ∷ compiled) zip =
    let here = zip.0.name in
    let later = same_prefix db name zones compiled zip.1 in
    rw (here, later) refl

pub place_is_located : (db : Db) (name : List ℕ) (zones : List CompiledZone) (links : List Link) → AllZip (IsCompiled db) db.zones zones → links ≡ db.links → place_called zones links name ≡ located db name
place_is_located db name zones links zip same =
    let places = same_prefix db name db.zones zones zip in
    let long : length zones ≡ length db.zones = AllZip-long (IsCompiled db) db.zones zones zip in
    rw (places, long, same) refl

-- a link that is found leads to a zone, where all do
linked_within : (name : List ℕ) (size place : ℕ) (links : List Link) → IsTrue (list_all (λ (link : Link). nat_lt link.zone size) links) → option_map (λ (link : Link). link.zone) (find (is_link_named name) links) ≡ Some place → place < size
linked_within name size place [] all is = cc
linked_within name size place (link ∷ links) all is =
    let parts = and_parts (nat_lt link.zone size) (list_all (λ (link : Link). nat_lt link.zone size) links) all in
    ⊎_elim
    (λ (e : is_link_named name link ≡ true).
    let found : Some link.zone ≡ Some place = rw e at is in
    let same : link.zone ≡ place = cc in
    let low = parts.0 in
    grind (arith, nat_tests))
    (λ (e : is_link_named name link ≡ false). linked_within name size place links parts.1 (rw e at is))
    (cases_Bool (is_link_named name link))

position_within : (n size place : ℕ) (linked : Option ℕ) → (linked ≡ Some place → place < size) → or_else (cond (nat_lt n size) (Some n) None) linked ≡ Some place → place < size
position_within n size place linked low h =
    ⊎_elim (λ (e : nat_lt n size ≡ true). let same : Some n ≡ Some place = rw e at h in let is : n ≡ place = cc in grind (arith, nat_tests)) (λ (e : nat_lt n size ≡ false). low (rw e at h)) (cases_Bool (nat_lt n size))

-- a zone that was located is there
pub located_within : (name : List ℕ) (db : Db) (place : ℕ) → IsTrue (is_sound db) → located db name ≡ Some place → place < length db.zones
located_within name db place sound named =
    let links = (and_parts (list_all (is_sound_zone db) db.zones) (list_all (λ (link : Link). nat_lt link.zone (length db.zones)) db.links) sound).1 in
    position_within (position_or_len (is_zone_named name) db.zones) (length db.zones) place (option_map (λ (link : Link). link.zone) (find (is_link_named name) db.links)) (linked_within name (length db.zones) place db.links links) named
