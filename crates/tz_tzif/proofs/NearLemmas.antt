-- The offsets of types are near, where those of ranges are.
use Rattle.std.proofs.Common.{◌≡◌, Bool, not, inl, inr, ⊎_elim, List, [], ◌∷◌, get_or, map, ℤ}
use Rattle.std.specs.Prelude.{filter}
use Rattle.std.specs.List.{All}
use Rattle.std.proofs.lemmas.List.{get_or_default}
use Rattle.std.proofs.lemmas.List.Filters.{All-dedup}
use Rattle.tz_types.specs.declared.range.SysInfo.{SysInfo}
use Rattle.tz_specs.proofs.ListLemmas.{In, In-from_Contains, Contains-from_In, In-filter_back, In-map_back}
use Rattle.tz_expand.specs.declared.compiled_zone.CompiledZone.{CompiledZone}
use Rattle.tz_expand.specs.Zone.{expansion_of}
use Rattle.tz_expand.specs.Stretch.{meets, ranges_between}
use Rattle.tz_expand.proofs.ZoneOffsets.{offset_near}
use Rattle.tz_tzif.specs.Types.{distinct, same_type, are_alike, type_of, merged, types_of, HasNearOffset}

pub All-from_In : {X : Type 0} (P : X → Type 0) (xs : List X) → ((x : X) → In x xs → P x) → All P xs
All-from_In P xs each k d within =
    each (get_or xs k d) (In-from_Contains xs (get_or xs k d) (k, within, get_or_default xs k (get_or xs k d) d within))

pub All-at_In : {X : Type 0} (P : X → Type 0) (xs : List X) (x : X) → All P xs → In x xs → P x
All-at_In P xs x all has =
    let there = Contains-from_In xs x has in
    let here : P (get_or xs there.0 x) = all there.0 x there.1 in
    rw there.2 at here

pub In-distinct_back : {X : Type 0} (same : X → X → Bool) (xs : List X) (x : X) → In x (distinct same xs) → In x xs
unfolding distinct
In-distinct_back same [] x has = has
In-distinct_back same (y ∷ xs) x has =
    ⊎_elim (λ (here : y ≡ x). inl here)
    (λ (later : In x (filter (λ z. not (same y z)) (distinct same xs))).
    inr (In-distinct_back same xs x (In-filter_back (λ z. not (same y z)) (distinct same xs) x later).0))
    has

abbrev pub IsNear : SysInfo → Type 0
IsNear range = HasNearOffset (type_of range)

merged_near : (ranges : List SysInfo) → All IsNear ranges → All IsNear (merged ranges)
unfolding merged
merged_near ranges near = All-dedup are_alike IsNear ranges near

pub types_near : (ranges : List SysInfo) → All IsNear ranges → All HasNearOffset (types_of (merged ranges))
types_near ranges near =
    All-from_In HasNearOffset (types_of (merged ranges))
    (λ local_type has.
    let range = In-map_back type_of (merged ranges) local_type (In-distinct_back same_type (map type_of (merged ranges)) local_type has) in
    let here : HasNearOffset (type_of range.0) = All-at_In IsNear (merged ranges) range.0 (merged_near ranges near) range.1 in
    rw range.2 at here)

pub ranges_near : (zone : CompiledZone) (a b : ℤ) → All IsNear (ranges_between zone a b)
ranges_near zone a b =
    All-from_In IsNear (ranges_between zone a b)
    (λ range has. offset_near zone range (In-filter_back (meets a b) (expansion_of zone) range has).0)
