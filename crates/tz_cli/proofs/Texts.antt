-- What one source says, it says of each database that is read from it.
use Rattle.std.proofs.Common.{◌≡◌, ℕ, ◌<◌, true, false, IsTrue, List, [], ◌∷◌, length, find, Option, Some, None, IsSome, is_some, option_map, cond, nat_lt, refl, ap, ◌∙◌, ⊎_elim, arith}
use Rattle.std.specs.List.{list_all, position_or_len}
use Rattle.std.proofs.lemmas.Bool.{cases_Bool, and_parts}
use Rattle.std.proofs.lemmas.Bool.Decides.{nat_tests}
use Rattle.tz_types.specs.declared.link.Link.{Link}
use Rattle.tz_types.specs.declared.source.Source.{Source}
use Rattle.tz_types.specs.declared.database.Db.{Db}
use Rattle.tz_specs.specs.Day.{or_else}
use Rattle.tz_specs.specs.Sound.{is_sound, is_sound_zone}
use Rattle.tz_specs.specs.Reads.{Reads}
use Rattle.tz_specs.proofs.SameDatabase.{one_database}
use Rattle.tz_lines.specs.Locate.{is_zone_named, is_link_named, located}

-- a name that one database has isn't missing from another
pub some_not_none : (source : Source) (name : List ℕ) (a b : Db) → Reads source a → Reads source b → IsSome (located a name) → located b name ≡ None → ⊥
some_not_none source name a b first second some none =
    let same : located a name ≡ None = ap (λ db. located db name) (one_database source a b first second) ∙ none in
    let never : is_some (located a name) ≡ false = rw same refl in cc

-- a link that is found leads to a zone, where all do
linked_within : (name : List ℕ) (size place : ℕ) (links : List Link) → IsTrue (list_all (λ (link : Link). nat_lt link.zone size) links) → option_map (λ (link : Link). link.zone) (find (is_link_named name) links) ≡ Some place → place < size
linked_within name size place [] all is = cc
linked_within name size place (link ∷ links) all is =
    let parts = and_parts (nat_lt link.zone size) (list_all (λ (link : Link). nat_lt link.zone size) links) all in
    ⊎_elim
    (λ (e : is_link_named name link ≡ true).
    let found : Some link.zone ≡ Some place = rw e at is in
    let same : link.zone ≡ place = cc in
    let low = parts.0 in
    grind (arith, nat_tests))
    (λ (e : is_link_named name link ≡ false). linked_within name size place links parts.1 (rw e at is))
    (cases_Bool (is_link_named name link))

position_within : (n size place : ℕ) (linked : Option ℕ) → (linked ≡ Some place → place < size) → or_else (cond (nat_lt n size) (Some n) None) linked ≡ Some place → place < size
position_within n size place linked low h =
    ⊎_elim (λ (e : nat_lt n size ≡ true). let same : Some n ≡ Some place = rw e at h in let is : n ≡ place = cc in grind (arith, nat_tests)) (λ (e : nat_lt n size ≡ false). low (rw e at h)) (cases_Bool (nat_lt n size))

-- a zone that was located is there
pub place_within : (name : List ℕ) (db : Db) (place : ℕ) → IsTrue (is_sound db) → located db name ≡ Some place → place < length db.zones
place_within name db place sound named =
    let links = (and_parts (list_all (is_sound_zone db) db.zones) (list_all (λ (link : Link). nat_lt link.zone (length db.zones)) db.links) sound).1 in
    position_within (position_or_len (is_zone_named name) db.zones) (length db.zones) place (option_map (λ (link : Link). link.zone) (find (is_link_named name) db.links)) (linked_within name (length db.zones) place db.links links) named
