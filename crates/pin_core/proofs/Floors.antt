-- When the floor moves.
use Rattle.std.proofs.Common.{◌≡◌, ◌≢◌, ℕ, List, length, sym, refl, ap, ◌∙◌, arith, ◌==◌, eq-eqb, ne_eqb}
use mathlib.Core.Option.{some, some-injective}
use lib.ListN.{get_elem?}
use Rattle.std.proofs.lemmas.Bool.{cond-true, cond-false}
use Rattle.pin_core.specs.declared.view.View.{View}
use Rattle.pin_core.specs.declared.view.Role.{Role}
use Rattle.pin_core.specs.declared.view.Role.TheVariants as roles
use Rattle.pin_core.specs.Core.{CoreState, number_count, is_main, mains}
use Rattle.pin_core.specs.Lawful.{Lawful}
use Rattle.pin_core.specs.Step.{MaySplit, split}
use Rattle.pin_core.proofs.Sums.{terms_le, total_alone}

pub floor_stays : (s : CoreState) (id number writes other : ℕ) (v u : View) → Lawful s → get_elem? s.views id ≡ some v → MaySplit number writes v → get_elem? s.views other ≡ some u → u.role ≡ roles.Reader → (split s id v number writes).floor ≡ s.floor
floor_stays s id number writes other v u h here may there reader =
    let main = may.main in
    let apart : other ≢ id = λ same. (let is : v ≡ u = some-injective v u (sym here ∙ ap (get_elem? s.views) (sym same) ∙ there) in let role = ap (λ (x : View). x.role) is in absurd (cc)) in
    let has = (h.owners.each other u there (λ spent. absurd (cc))).reader reader in let one = ap (λ (ns : List ℕ). length ns) has.1 in
    let both = terms_le number_count s.views id other v u apart here there in let whole = h.owners.whole in
    cond-false (length v.numbers == s.readers) (length v.seen) v.floor (ne_eqb (length v.numbers) s.readers (λ all. omega arith)) ∙ (h.places id v here (λ spent. absurd (cc))).same

pub floor_moves : (s : CoreState) (id number writes : ℕ) (v : View) → Lawful s → get_elem? s.views id ≡ some v → MaySplit number writes v → ((other : ℕ) (u : View) → get_elem? s.views other ≡ some u → u.role ≢ roles.Reader)
    → (split s id v number writes).floor ≡ length v.seen
floor_moves s id number writes v h here may none =
    cond-true (length v.numbers == s.readers) (length v.seen) v.floor (eq-eqb (length v.numbers) s.readers (sym (total_alone number_count s.views id v here (λ other u apart there. by_role other u apart there u.role refl)) ∙ h.owners.whole))
  where
    by_role : (other : ℕ) (u : View) → other ≢ id → get_elem? s.views other ≡ some u → (role : Role) → u.role ≡ role → number_count u ≡ 0
    by_role other u apart there roles.Main is = let both = terms_le is_main s.views id other v u apart here there in let one = h.owners.main in let mine = ap mains may.main in let theirs = ap mains is in absurd (omega arith)
    by_role other u apart there roles.Reader is = absurd (none other u there is)
    by_role other u apart there roles.Spent is = ap number_count (h.spent other u there is)
