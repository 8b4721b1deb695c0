-- What a version keeps, by the names of its zones and links.
use Rattle.std.proofs.Common.{◌≡◌, ℕ, zero, suc, ◌<◌, List, [], ◌∷◌, length, map, Some, None, slice_get, get_or, IsTrue, inl, inr, sym, ap, ◌∙◌, arith}
use Rattle.std.specs.List.{AllZip}
use Rattle.std.proofs.lemmas.Option.{slice_get_cases, none-some, same_Some}
use Rattle.std.proofs.lemmas.Slice.Zip.{AllZip-long}
use Rattle.tz_types.specs.Order.{ascends, name_before}
use Rattle.tz_types.specs.declared.limit.TheConstants.{MOST_ZONES}
use Rattle.tz_types.specs.declared.link.Link.{Link}
use Rattle.tz_types.specs.declared.database.Db.{Db}
use Rattle.tz_lines.specs.Locate.{located}
use Rattle.tz_expand.specs.declared.compiled_zone.CompiledZone.{CompiledZone}
use Rattle.tz_expand.specs.Zone.{IsCompiled}
use Rattle.tz_windows.specs.declared.cells.Cells.{Cells}
use Rattle.tz_version.specs.Release.{Release, IsZoneCalled, LacksZone}
use Rattle.tz_version.specs.Search.{place_called}
use Rattle.tz_version.specs.Kept.{IsKept}
use Rattle.tz_version.proofs.Located.{compiled_ascend, place_is_located, located_within}
use Rattle.tz_version.proofs.Refusals.{same_database}

-- what stands at one place of both is a pair
zip_at : {A B : Type 0} (R : A → B → Type 0) (xs : List A) (ys : List B) (place : ℕ) (x : A) (y : B) → AllZip R xs ys → slice_get xs place ≡ Some x → y ≡ get_or ys place y → R x y
zip_at R [] ys place x y zip at there = absurd (none-some x at)
zip_at R (first ∷ xs) [] place x y zip at there = absurd zip
zip_at R (first ∷ xs) (other ∷ ys) zero x y zip at there =
    let same : first ≡ x = same_Some first x at in
    rw (← same, there) zip.0
zip_at R (first ∷ xs) (other ∷ ys) (suc place) x y zip at there = zip_at R xs ys place x y zip.1 at there

module _ (version : Release) (cells : List Cells) (kept : IsKept version cells) (name : List ℕ) where
  pub zones_ascend : IsTrue (ascends name_before (map (λ (zone : CompiledZone). zone.name) version.zones))
  zones_ascend = compiled_ascend kept.is.db version.zones kept.is.zones

  pub links_ascend : IsTrue (ascends name_before (map (λ (link : Link). link.name) version.links))
  links_ascend = rw kept.is.links kept.is.db.links_ascend

  is_located : place_called version.zones version.links name ≡ located kept.is.db name
  is_located = place_is_located kept.is.db name version.zones version.links kept.is.zones kept.is.links

  pub place_there : (place : ℕ) → Some place ≡ place_called version.zones version.links name → place < length version.zones
  place_there place found =
      let low = located_within name kept.is.db place kept.sound (sym (found ∙ is_located)) in
      let long = AllZip-long (IsCompiled kept.is.db) kept.is.db.zones version.zones kept.is.zones in
      omega (arith, low, long)

  pub place_small : (place : ℕ) → Some place ≡ place_called version.zones version.links name → place < MOST_ZONES
  place_small place found =
      let low = located_within name kept.is.db place kept.sound (sym (found ∙ is_located)) in
      let few = kept.is.db.few_zones in
      omega (arith, low, few)

  pub place_with_cells : (place : ℕ) → Some place ≡ place_called version.zones version.links name → place < length cells
  place_with_cells place found =
      let low = place_there place found in
      let one_each = kept.one_each in
      omega (arith, low, one_each)

  pub zone_called : (place : ℕ) (one : CompiledZone) → Some place ≡ place_called version.zones version.links name → one ≡ get_or version.zones place one → IsZoneCalled version name one
  zone_called place one found there =
      let db = kept.is.db in
      let named = sym (found ∙ is_located) in
      let low = located_within name db place kept.sound named in
      elim (slice_get_cases db.zones place).1 [
        | inl at ↦
            record {
              db = db;
              says = kept.is.says;
              place = place;
              named = named;
              zone = at.0;
              there = at.2;
              is = zip_at (IsCompiled db) db.zones version.zones place at.0 one kept.is.zones at.2 there;
            }
        | inr past ↦ absurd (omega (arith, past.0, low))
      ]

  pub lacks_zone : None ≡ place_called version.zones version.links name → LacksZone version name
  lacks_zone missing = record { db = kept.is.db; says = kept.is.says; missing = sym (missing ∙ is_located) }

pub called_not_lacking : (version : Release) (name : List ℕ) (one : CompiledZone) → IsZoneCalled version name one → LacksZone version name → ⊥
called_not_lacking version name one called lacks =
    let same = same_database version.sources version.src called.db lacks.db called.says lacks.says in
    none-some called.place (sym lacks.missing ∙ ap (λ (db : Db). located db name) (sym same) ∙ called.named)
