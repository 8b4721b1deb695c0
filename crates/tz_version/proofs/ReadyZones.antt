-- The zones of a database, compiled one after another.
use Rattle.std.proofs.Common.{◌≡◌, ℕ, ◌+◌, ◌<◌, ◌≤◌, List, [], ◌∷◌, ◌++◌, length, take, Some, slice_get, inl, inr, ap, ◌∙◌, subst, arith}
use Rattle.std.specs.List.{AllZip}
use Rattle.std.proofs.lemmas.List.{take_more, take_all}
use Rattle.std.proofs.lemmas.Option.{slice_get_cases}
use Rattle.tz_types.specs.declared.zone.Zone.{Zone}
use Rattle.tz_types.specs.declared.database.Db.{Db}
use Rattle.tz_expand.specs.declared.compiled_zone.CompiledZone.{CompiledZone}
use Rattle.tz_expand.specs.Zone.{IsCompiled}

-- pairs with one more at their end
pub zip_push : {A B : Type 0} (R : A → B → Type 0) (xs : List A) (ys : List B) (x : A) (y : B) → AllZip R xs ys → R x y → AllZip R (xs ++ x ∷ []) (ys ++ y ∷ [])
zip_push R [] [] x y zip here = (here, tt)
zip_push R [] (other ∷ ys) x y zip here = absurd zip
zip_push R (first ∷ xs) [] x y zip here = absurd zip
zip_push R (first ∷ xs) (other ∷ ys) x y zip here = (zip.0, zip_push R xs ys x y zip.1 here)

-- one more zone
pub next_ready : (db : Db) (place : ℕ) (compiled next : List CompiledZone) → place < length db.zones → AllZip (IsCompiled db) (take place db.zones) compiled
    → ((before : List Zone) (zone : Zone) → slice_get db.zones place ≡ Some zone → AllZip (IsCompiled db) before compiled → AllZip (IsCompiled db) (before ++ zone ∷ []) next)
    → AllZip (IsCompiled db) (take (place + 1) db.zones) next
next_ready db place compiled next within ready pushed =
    elim (slice_get_cases db.zones place).1 [
      | inl at ↦
          let more : take (place + 1) db.zones ≡ take place db.zones ++ at.0 ∷ [] = take_more db.zones place at.0 within ∙ ap (λ (zone : Zone). take place db.zones ++ zone ∷ []) at.3 in
          rw more (pushed (take place db.zones) at.0 at.2 ready)
      | inr past ↦ absurd (omega (arith, past.0))
    ]

-- all of them
pub all_ready : (db : Db) (place : ℕ) (compiled : List CompiledZone) → length db.zones ≤ place → AllZip (IsCompiled db) (take place db.zones) compiled → AllZip (IsCompiled db) db.zones compiled
all_ready db place compiled all ready =
    subst (λ (zones : List Zone). AllZip (IsCompiled db) zones compiled) (take_all place db.zones all) ready
