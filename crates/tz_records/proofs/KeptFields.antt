-- What is kept of the fields of a line says of all of them.
use Rattle.std.proofs.Common.{◌≡◌, ℕ, ◌<◌, ◌≤◌, List, [], ◌∷◌, length, take, refl, sym, ap, ◌∙◌, arith}
use Rattle.std.proofs.lemmas.List.{take_all}
use Rattle.tz_text.specs.declared.kept.TheConstants.{MOST_KEPT}
use Rattle.tz_text.specs.Kept.{Kept, kept_of}
use Rattle.tz_specs.specs.Value.{field_at}

pub count_kept : (all : List (List ℕ)) (kept : Kept) → kept_of all ≡ kept → length all ≡ kept.count
count_kept all kept e = ap (λ (it : Kept). it.count) e

-- no fields are none that are kept
pub none_kept : {A : Type 0} (kept : Kept) → kept_of [] ≡ kept → 0 < kept.count → A
none_kept kept e some = let none = count_kept [] kept e in absurd (omega arith)

pub no_fields : (all : List (List ℕ)) (kept : Kept) → kept_of all ≡ kept → kept.count ≡ 0 → all ≡ []
no_fields [] kept e none = refl
no_fields (field ∷ fields) kept e none = let count = count_kept (field ∷ fields) kept e in absurd (omega arith)

first_taken : (all : List (List ℕ)) → field_at 0 (take MOST_KEPT all) ≡ field_at 0 all
first_taken [] = refl
first_taken (field ∷ fields) = refl

-- the first field is kept
pub first_field : (all : List (List ℕ)) (kept : Kept) → kept_of all ≡ kept → field_at 0 all ≡ field_at 0 kept.first
first_field all kept e = sym (first_taken all) ∙ ap (λ (it : Kept). field_at 0 it.first) e

-- all fields are kept where there are no more than that
pub all_kept : (all : List (List ℕ)) (kept : Kept) → kept_of all ≡ kept → kept.count ≤ MOST_KEPT → kept.first ≡ all
all_kept all kept e few =
    let count = count_kept all kept e in
    sym (ap (λ (it : Kept). it.first) e) ∙ take_all MOST_KEPT all (omega arith)
