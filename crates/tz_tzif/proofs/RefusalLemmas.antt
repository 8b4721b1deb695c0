-- The first index that no octet holds, of one type more.
use Rattle.std.proofs.Common.{◌≡◌, ℕ, ◌+◌, ◌<◌, refl, sym, ap, ◌∙◌, List, [], ◌∷◌, ◌++◌, length, take, drop, get_or, map, Option, Some, None}
use Rattle.std.specs.Prelude.{nat_lt}
use Rattle.std.proofs.lemmas.List.{map_more, take-append-drop, map-append, drop_more}
use Rattle.tz_specs.proofs.Tests.{by_test}
use Rattle.tz_types.specs.Reason.{HasReason}
use Rattle.tz_tzif.specs.declared.local_type.LocalType.{LocalType}
use Rattle.tz_tzif.specs.declared.tzif_error.TzifError.{TzifError}
use Rattle.tz_tzif.specs.declared.tzif_error.TzifError.TheVariants as errors
use Rattle.tz_tzif.specs.Designations.{index_in, indices_in}
use Rattle.tz_tzif.specs.Refusal.{first_far, file_refusal, TellsFar}

none-append : (xs ys : List ℕ) → first_far xs ≡ None → first_far (xs ++ ys) ≡ first_far ys
none-append [] ys none = refl
none-append (x ∷ xs) ys none =
    by_test (nat_lt 255 x) (λ e. let clash : Some x ≡ None = rw e at none in cc)
    (λ e. let rest : first_far xs ≡ None = rw e at none in rw e (none-append xs ys rest))

pub none-more : (designations : List (List ℕ)) (types : List LocalType) (place : ℕ) (local_type : LocalType) → place < length types → local_type ≡ get_or types place local_type → first_far (indices_in designations (take place types)) ≡ None → first_far (index_in designations local_type.designation ∷ []) ≡ None → first_far (indices_in designations (take (place + 1) types)) ≡ None
none-more designations types place local_type within is before here =
    let of : LocalType → ℕ = λ x. index_in designations x.designation in
    let one : map of (take (place + 1) types) ≡ map of (take place types) ++ of local_type ∷ [] = map_more of types place local_type within ∙ rw (← is) refl in
    rw one (none-append (map of (take place types)) (of local_type ∷ []) before ∙ here)

-- the first of all is the first of the rest, where none stands before
far-from : (xs ys : List ℕ) (x : ℕ) (far : Option ℕ) (at : ℕ) → first_far xs ≡ None → first_far (x ∷ []) ≡ Some at → first_far (xs ++ x ∷ ys) ≡ Some at
far-from xs ys x far at before here =
    none-append xs (x ∷ ys) before
    ∙ by_test (nat_lt 255 x) (λ e. let it : Some x ≡ Some at = rw e at here in rw e it)
    (λ e. let clash : None ≡ Some at = rw e at here in cc)

pub told-more : (designations : List (List ℕ)) (types : List LocalType) (place : ℕ) (local_type : LocalType) (error : TzifError) → place < length types → local_type ≡ get_or types place local_type → first_far (indices_in designations (take place types)) ≡ None → HasReason (TellsFar (first_far (index_in designations local_type.designation ∷ []))) (file_refusal error) → HasReason (TellsFar (first_far (indices_in designations types))) (file_refusal error)
told-more designations types place local_type errors.NoMemory within is before told = tt
told-more designations types place local_type (errors.Types count) within is before told = told
told-more designations types place local_type (errors.Designations at) within is before told =
    let of : LocalType → ℕ = λ x. index_in designations x.designation in
    let whole : types ≡ take place types ++ local_type ∷ drop (place + 1) types =
    sym (take-append-drop place types) ∙ ap (λ xs. take place types ++ xs) (drop_more types place local_type within ∙ ap (λ x. x ∷ drop (place + 1) types) (sym is)) in
    let split : map of types ≡ map of (take place types) ++ of local_type ∷ map of (drop (place + 1) types) =
    ap (map of) whole ∙ map-append of (take place types) (local_type ∷ drop (place + 1) types) in
    rw split (far-from (map of (take place types)) (map of (drop (place + 1) types)) (of local_type) None at before told)
