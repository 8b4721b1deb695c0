-- Where names lead: what is noted of them, and what stands there.
use Rattle.std.proofs.Common.{◌≡◌, ℕ, suc, ◌+◌, cond, if◌then◌else◌, List, [], ◌∷◌, ◌++◌, length, map, Option, Some, refl, sym, ap, ◌∙◌, arith}
use Rattle.std.proofs.lemmas.List.{map-append, length-map}
use Rattle.tz_specs.specs.Value.{is_exactly}
use Rattle.tz_database.specs.declared.stop.Stop.{Stop}
use Rattle.tz_database.specs.Stops.{first_stop}

module _ (stop_at : ℕ → Stop) (name : List ℕ) where
  -- one more name behind some others
  first-last : (place : ℕ) (names : List (List ℕ)) (last : List ℕ) (known : Option Stop) → first_stop stop_at place name (names ++ last ∷ []) known ≡ first_stop stop_at place name names (if is_exactly last name then Some (stop_at (place + length names)) else known)
  first-last place [] last known = (let here : place + 0 ≡ place = omega arith in rw here refl)
  first-last place (other ∷ names) last known =
      let later : place + suc (length names) ≡ suc place + length names = omega arith in
      rw later (ap (λ rest. if is_exactly other name then Some (stop_at place) else rest) (first-last (suc place) names last known))

  -- what is known, when the last of some is noted
  pub noted_last : {A : Type 0} (name_of : A → List ℕ) (before rest : List A) (x : A) (place : ℕ) (old new : Option Stop) → before ≡ rest ++ x ∷ [] → place ≡ length rest → new ≡ cond (is_exactly (name_of x) name) (Some (stop_at place)) old → first_stop stop_at 0 name (map name_of rest) new ≡ first_stop stop_at 0 name (map name_of before) old
  noted_last {A} name_of before rest x place old new is here e =
      let names : map name_of before ≡ map name_of rest ++ name_of x ∷ [] = ap (map name_of) is ∙ map-append name_of rest (x ∷ []) in
      let at : place ≡ 0 + length (map name_of rest) = omega (arith, length-map rest name_of) in
      let last : new ≡ (if is_exactly (name_of x) name then Some (stop_at (0 + length (map name_of rest))) else old) =
      e ∙ ap (λ at. if is_exactly (name_of x) name then Some (stop_at at) else old) at in
      rw names (rw last (sym (first-last 0 (map name_of rest) (name_of x) old)))
