-- A source that is read gives a sound database.
use Rattle.std.proofs.Common.{◌≡◌, nat_le, nat_lt, IsTrue, List, [], ◌∷◌, length, map, Option, None, refl}
use Rattle.std.specs.List.{list_all, filter_map, flat_map, All}
use Rattle.std.specs.List.Sorted.{IsPermutation}
use Rattle.std.proofs.lemmas.Bool.{and_parts, and_from}
use Rattle.std.proofs.lemmas.List.Elements.{All-nil, All-cons, All-head, All-tail}
use Rattle.std.proofs.lemmas.List.Sorted.{All-permutation}
use Rattle.tz_types.specs.declared.limit.TheConstants.{MOST_ZONE_LINES}
use Rattle.tz_types.specs.declared.link.Link.{Link}
use Rattle.tz_types.specs.declared.source.Source.{Source}
use Rattle.tz_types.specs.declared.database.Db.{Db}
use Rattle.tz_specs.specs.Expansion.{first_instant}
use Rattle.tz_specs.specs.Written.{WrittenZone, set_names, written_zone}
use Rattle.tz_specs.specs.Whole.{missing_continuation, late_lines}
use Rattle.tz_specs.specs.Sound.{is_sound_zone, is_sound}
use Rattle.tz_specs.specs.Reads.{Reads}
use Rattle.tz_database.proofs.ZoneTime.{goes_on, all_go_on, zones_sound}
use Rattle.tz_database.proofs.BuiltDatabases.{all_permuted, places_in}
use Rattle.tz_database.proofs.Faultless.{none_first, none_second, none_of_first, none_of_rest, faultless}
use Rattle.tz_text_laws.proofs.Continued.{is_whole, are_whole, zones_whole}

-- nothing is told of any element, in whatever order they stand

all_none : {X Y : Type 0} (f : X → Option Y) (xs : List X) → filter_map f xs ≡ [] → All (λ x. f x ≡ None) xs
all_none {X} {Y} f [] none = All-nil (λ x. f x ≡ None)
all_none {X} {Y} f (x ∷ xs) none =
    All-cons (λ x. f x ≡ None) x xs (none_of_first (f x) (filter_map f xs) none) (all_none f xs (none_of_rest (f x) (filter_map f xs) none))

none_all : {X Y : Type 0} (f : X → Option Y) (xs : List X) → All (λ x. f x ≡ None) xs → filter_map f xs ≡ []
none_all {X} {Y} f [] all = refl
none_all {X} {Y} f (x ∷ xs) all =
    let here = All-head (λ x. f x ≡ None) x xs all in
    rw here (none_all f xs (All-tail (λ x. f x ≡ None) x xs all))

none_permuted : {X Y : Type 0} (f : X → Option Y) (xs ys : List X) → IsPermutation xs ys → filter_map f xs ≡ [] → filter_map f ys ≡ []
none_permuted {X} {Y} f xs ys moved none =
    none_all f ys (All-permutation (λ x. f x ≡ None) xs ys moved (all_none f xs none))

all_empty : {X Y : Type 0} (f : X → List Y) (xs : List X) → flat_map f xs ≡ [] → All (λ x. f x ≡ []) xs
all_empty {X} {Y} f [] none = All-nil (λ x. f x ≡ [])
all_empty {X} {Y} f (x ∷ xs) none =
    All-cons (λ x. f x ≡ []) x xs (none_first (f x) (flat_map f xs) none) (all_empty f xs (none_second (f x) (flat_map f xs) none))

empty_all : {X Y : Type 0} (f : X → List Y) (xs : List X) → All (λ x. f x ≡ []) xs → flat_map f xs ≡ []
empty_all {X} {Y} f [] all = refl
empty_all {X} {Y} f (x ∷ xs) all =
    let here = All-head (λ x. f x ≡ []) x xs all in
    rw here (empty_all f xs (All-tail (λ x. f x ≡ []) x xs all))

empty_permuted : {X Y : Type 0} (f : X → List Y) (xs ys : List X) → IsPermutation xs ys → flat_map f xs ≡ [] → flat_map f ys ≡ []
empty_permuted {X} {Y} f xs ys moved none =
    empty_all f ys (All-permutation (λ x. f x ≡ []) xs ys moved (all_empty f xs none))

go_on : (zones : List WrittenZone) → IsTrue (are_whole zones) → IsTrue (all_go_on zones)
go_on [] whole = refl
go_on (zone ∷ zones) whole =
    let both = and_parts (is_whole zone) (are_whole zones) whole in
    let here = and_parts (goes_on zone.lines) (nat_le (length zone.lines) MOST_ZONE_LINES) both.0 in
    and_from (goes_on zone.lines) (all_go_on zones) here.0 (go_on zones both.1)

-- the zones of the database, as they are written
abbrev pub own_zones : Db → List WrittenZone
own_zones db = map (written_zone (set_names db.sets)) db.zones

pub own_whole : (source : Source) (db : Db) → Reads source db → IsTrue (are_whole (own_zones db))
own_whole source db reads =
    all_permuted is_whole reads.contents.zones (own_zones db) reads.zones (zones_whole source.files reads.contents reads.given)

pub read_is_sound : (source : Source) (db : Db) → Reads source db → IsTrue (is_sound db)
read_is_sound source db reads =
    let good = faultless db.sets reads.contents reads.no_fault in
    let finished = none_permuted missing_continuation reads.contents.zones (own_zones db) reads.zones good.finished in
    let timely = empty_permuted (λ (zone : WrittenZone). late_lines db.sets first_instant zone.lines) reads.contents.zones (own_zones db) reads.zones good.timely in
    let zones = zones_sound db db.zones reads.known (go_on (own_zones db) (own_whole source db reads)) finished timely in
    let links = places_in reads.contents db.zones db.links reads.places in
    and_from (list_all (is_sound_zone db) db.zones) (list_all (λ (link : Link). nat_lt link.zone (length db.zones)) db.links) zones links
