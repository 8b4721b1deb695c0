-- A split and a join move allowances, and keep their sum.
use Rattle.std.proofs.Common.{◌≡◌, ◌≢◌, ℕ, ◌+◌, ◌≤◌, refl, ap, sym, ◌∙◌, arith}
use mathlib.Core.Option.{some, some-injective}
use lib.ListN.{get_elem?}
use Rattle.pin_core.specs.declared.view.View.{View}
use Rattle.pin_core.specs.declared.view.Role.TheVariants as roles
use Rattle.pin_core.specs.Core.{CoreState, total, allowance_of}
use Rattle.pin_core.specs.Step.{MaySplit, MayJoin, left_over, split_off, split, taken_in, join}
use Rattle.pin_core.proofs.Splits.{total_split}
use Rattle.pin_core.proofs.Joins.{total_join}

pub split_keeps : (s : CoreState) (id number writes : ℕ) (v : View) → get_elem? s.views id ≡ some v → MaySplit number writes v → total allowance_of (split s id v number writes).views ≡ total allowance_of s.views
split_keeps s id number writes v here may =
    total_split allowance_of s.views id v (left_over s.readers number writes v) (split_off s.readers number writes v) here (let room = may.room in omega arith)

pub join_keeps : (s : CoreState) (id other : ℕ) (v w : View) → get_elem? s.views id ≡ some v → get_elem? s.views other ≡ some w → MayJoin v w → total allowance_of (join s id v other w).views ≡ total allowance_of s.views
join_keeps s id other v w here there may =
    let apart : other ≢ id = λ same. (let is : v ≡ w = some-injective v w (sym here ∙ ap (get_elem? s.views) (sym same) ∙ there) in
    let role = ap (λ (x : View). x.role) is in let main = may.main in let reader = may.reader in absurd (cc)) in
    total_join allowance_of s.views id other v w (taken_in v w) apart here there refl refl
