-- Names are the same, or one comes before the other.
use Rattle.std.proofs.Common.{◌≡◌, ℕ, true, false, nat_eq, IsTrue, List, [], ◌∷◌, refl, ap, ◌∙◌, arith, subst}
use Rattle.std.specs.Ordering.{nat_cmp, is_lt, ordering_reverse}
use Rattle.std.specs.declared.cmp.Ordering.{Ordering}
use Rattle.std.specs.declared.cmp.Ordering.TheVariants.{Less, Equal, Greater}
use Rattle.std.specs.Cmp.Lexicographic.{slice_cmp}
use Rattle.std.proofs.lemmas.Bool.Decides.{nat_tests}
use Rattle.std.proofs.lemmas.Cmp.{nat_list_cmp_total}
use Rattle.std.proofs.lemmas.Map.Lookups.{exact_bytes}
use Rattle.tz_types.specs.Order.{name_before}
use Rattle.tz_specs.specs.Value.{is_exactly}
use Rattle.tz_specs.proofs.AscendingLemmas.{both_hold}

-- a name that is exactly another is that name
pub same_name : (a b : List ℕ) → IsTrue (is_exactly a b) → a ≡ b
same_name [] [] h = refl
same_name [] (y ∷ b) h = absurd (cc)
same_name (x ∷ a) [] h = absurd (cc)
same_name (x ∷ a) (y ∷ b) h =
    let both = both_hold (nat_eq x y) (is_exactly a b) h in
    let first : x ≡ y = grind (arith, nat_tests, both.0) in
    let later = same_name a b both.1 in
    λ i. first i ∷ later i

pub exactly_itself : (a : List ℕ) → IsTrue (is_exactly a a)
exactly_itself [] = refl
exactly_itself (x ∷ a) = let here : IsTrue (nat_eq x x) = grind (arith, nat_tests) in rw here (exactly_itself a)

by_order : (a b : List ℕ) (order : Ordering) → slice_cmp nat_cmp a b ≡ order → is_lt order ≡ false → is_exactly b a ≡ false → IsTrue (name_before b a)
by_order a b Less is before same = absurd (cc)
by_order a b Equal is before same =
    let one : a ≡ b = exact_bytes a b is in
    let bad : is_exactly b a ≡ true = subst (λ it. is_exactly it a ≡ true) one (exactly_itself a) in
    absurd (cc)
by_order a b Greater is before same =
    let back : slice_cmp nat_cmp b a ≡ Less = nat_list_cmp_total.antisymm b a ∙ ap ordering_reverse is in
    rw back refl

-- of two names that aren't the same one comes before the other
pub or_before : (a b : List ℕ) → name_before a b ≡ false → is_exactly b a ≡ false → IsTrue (name_before b a)
or_before a b before same = by_order a b (slice_cmp nat_cmp a b) refl before same
