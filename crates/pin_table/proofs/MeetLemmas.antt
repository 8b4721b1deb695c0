-- What a join tells of the two seen journals: one is a front part of the other.
use Rattle.std.proofs.Common.{◌≡◌, ◌≢◌, ℕ, zero, suc, ◌^◌, ◌<◌, ◌≤◌, ◌&&◌, ◌||◌, eqb, true, false, Bool, List, [], ◌∷◌, length, take, set, Some, refl, sym, ap, subst, ◌∙◌, inl, inr, ⊎_elim, ◌⊎◌, arith}
use Rattle.std.proofs.lemmas.Bool.{and_parts, or_cases, eqb-true, eq-eqb, cond-true, cond-false, cases_Bool, cases_order}
use mathlib.Core.Option.{some}
use lib.ListN.{get_elem?}
use Rattle.atomic_table.specs.Table.{State, Joins}
use Rattle.atomic_table.proofs.Lists.{set_else}
use Rattle.pin_book.specs.declared.write.Change.{Change}
use Rattle.pin_book.specs.declared.write.Change.TheVariants.{Push, Erase}
use Rattle.pin_book.specs.declared.write.Write.{Write}
use Rattle.pin_core.specs.declared.view.View.{View}
use Rattle.pin_core.specs.declared.view.Role.TheVariants as roles
use Rattle.pin_core.proofs.Readers.{part_of_longer}
use Rattle.pin_table.specs.declared.cell.Cell.{Cell}
use Rattle.pin_table.specs.declared.sitting.Plan.{Plan}
use Rattle.pin_table.specs.declared.sitting.Sitting.{Sitting}
use Rattle.pin_table.specs.Seat.{knowing, spent_sitting}
use Rattle.pin_table.specs.Rule.{KeepsList}
use Rattle.pin_table.specs.Parting.{AreFronts, is_same_change, is_same_write, is_front_of, are_fronts, overdrawn, joined_sitting, met_sitting}
use Rattle.pin_table.proofs.KeptLemmas.{kept_lawful, kept_view}
use Rattle.pin_table.proofs.PartingLemmas.{joins_kept}

same_push : (n m src other slot place : ℕ) → n ≡ m → src ≡ other → slot ≡ place → Push n src slot ≡ Push m other place
same_push n m src other slot place one two three = cc

same_erase : (after before gone lost : ℕ) → after ≡ before → gone ≡ lost → Erase after gone ≡ Erase before lost
same_erase after before gone lost one two = cc

same_change : (a b : Change) → is_same_change a b ≡ true → a ≡ b
same_change (Push n src slot) (Push m other place) passed =
    let first = and_parts (eqb n m) (eqb src other && eqb slot place) passed in
    let second = and_parts (eqb src other) (eqb slot place) first.1 in
    same_push n m src other slot place (eqb-true n m first.0) (eqb-true src other second.0) (eqb-true slot place second.1)
same_change (Push n src slot) (Erase after gone) passed = cc
same_change (Erase after gone) (Push n src slot) passed = cc
same_change (Erase after gone) (Erase before lost) passed =
    let parts = and_parts (eqb after before) (eqb gone lost) passed in
    same_erase after before gone lost (eqb-true after before parts.0) (eqb-true gone lost parts.1)

write_of : ℕ → ℕ → Change → Write
write_of by seq change = record { by = by; seq = seq; change = change }

same_write : (a b : Write) → is_same_write a b ≡ true → a ≡ b
unfolding write_of
same_write a b passed =
    let first = and_parts (eqb a.by b.by) (eqb a.seq b.seq && is_same_change a.change b.change) passed in
    let second = and_parts (eqb a.seq b.seq) (is_same_change a.change b.change) first.1 in
    (λ i. write_of (eqb-true a.by b.by first.0 i) (eqb-true a.seq b.seq second.0 i) (same_change a.change b.change second.1 i))

front_there : (a b : List Write) → is_front_of a b ≡ true → take (length a) b ≡ a
front_there [] b passed = refl
front_there (x ∷ xs) [] passed = cc
front_there (x ∷ xs) (y ∷ ys) passed =
    let parts = and_parts (is_same_write x y) (is_front_of xs ys) passed in
    let same = same_write x y parts.0 in let later = front_there xs ys parts.1 in
    (λ i. sym same i ∷ later i)

both_true : (a b : Bool) → a ≡ true → b ≡ true → (a && b) ≡ true
both_true a b one two = cc

change_itself : (a : Change) → is_same_change a a ≡ true
change_itself (Push n src slot) = both_true (eqb n n) (eqb src src && eqb slot slot) (eq-eqb n n refl) (both_true (eqb src src) (eqb slot slot) (eq-eqb src src refl) (eq-eqb slot slot refl))
change_itself (Erase after gone) = both_true (eqb after after) (eqb gone gone) (eq-eqb after after refl) (eq-eqb gone gone refl)

write_itself : (a : Write) → is_same_write a a ≡ true
write_itself a =
    both_true (eqb a.by a.by) (eqb a.seq a.seq && is_same_change a.change a.change) (eq-eqb a.by a.by refl)
    (both_true (eqb a.seq a.seq) (is_same_change a.change a.change) (eq-eqb a.seq a.seq refl) (change_itself a.change))

front_of_itself : (n : ℕ) (b : List Write) → is_front_of (take n b) b ≡ true
front_of_itself zero b = refl
front_of_itself (suc n) [] = refl
front_of_itself (suc n) (y ∷ ys) = both_true (is_same_write y y) (is_front_of (take n ys) ys) (write_itself y) (front_of_itself n ys)

-- by the test
pub told_by_test : (a b : List Write) → are_fronts a b ≡ true → AreFronts a b
told_by_test a b passed =
    ⊎_elim (λ (first : is_front_of a b ≡ true). inl (front_there a b first)) (λ (second : is_front_of b a ≡ true). inr (front_there b a second))
    (or_cases (is_front_of a b) (is_front_of b a) passed)

or_true : (x : Bool) → (x || true) ≡ true
or_true true = refl
or_true false = refl

tested : (a b : List Write) → AreFronts a b → are_fronts a b ≡ true
tested a b (inl first) = ap (λ (t : Bool). t || is_front_of b a) (subst (λ (xs : List Write). is_front_of xs b ≡ true) first (front_of_itself (length a) b))
tested a b (inr second) =
    ap (λ (t : Bool). is_front_of a b || t) (subst (λ (xs : List Write). is_front_of xs a ≡ true) second (front_of_itself (length b) a))
    ∙ or_true (is_front_of a b)

module _ {P H : Type 0} (home : P → H) (source : P → ℕ) (name_of : H → ℕ → List ℕ) (plan : Plan P) where
  -- in a state of the rule the test is passed, so that the main's seat meets the reader's as it is joined
  meets_as_joined : (s : State (Cell P H) (Sitting P)) → KeepsList home source name_of plan s → (id other : ℕ) (v w : Sitting P) → get_elem? s.views id ≡ some v → get_elem? s.views other ≡ some w
      → v.core.role ≢ roles.Spent → w.core.role ≢ roles.Spent → met_sitting v w ≡ joined_sitting v w
  meets_as_joined s h id other v w at there live lives =
      let lawful = kept_lawful home source name_of plan s h in
      let mine : get_elem? h.core.views id ≡ some v.core = kept_view home source name_of plan s h id v at in
      let its : get_elem? h.core.views other ≡ some w.core = kept_view home source name_of plan s h other w there in
      let alike : AreFronts v.core.seen w.core.seen = ⊎_elim
      (λ (short : length v.core.seen ≤ length w.core.seen). inl (part_of_longer h.core id other v.core w.core lawful mine its live lives short))
      (λ (long : length w.core.seen ≤ length v.core.seen). inr (part_of_longer h.core other id w.core v.core lawful its mine lives live long))
      (either_order (length v.core.seen) (length w.core.seen)) in
      cond-true (are_fronts v.core.seen w.core.seen) (joined_sitting v w) (knowing (overdrawn v.core) v) (tested v.core.seen w.core.seen alike)
    where
      either_order : (a b : ℕ) → (a ≤ b) ⊎ (b ≤ a)
      either_order a b = ⊎_elim (λ (same : a ≡ b). inl (omega (arith, same))) (λ (apart : (a < b) ⊎ (b < a)). ⊎_elim (λ (low : a < b). inl (omega (arith, low))) (λ (high : b < a). inr (omega (arith, high))) apart) (cases_order a b)

  pub meets_kept : (id other : ℕ) (v w : Sitting P) → v.plan ≡ Some plan → v.core.role ≡ roles.Main → w.core.role ≡ roles.Reader → w.core.entries ≡ [] → w.core.turn ≡ false
      → Joins (KeepsList home source name_of plan) id v other w (met_sitting v w) spent_sitting
  meets_kept id other v w planned main reader unpinned idle s h at apart there =
      let its : get_elem? s.views other ≡ some w = sym (set_else s.views id other (met_sitting v w) apart) ∙ there in
      let same : met_sitting v w ≡ joined_sitting v w = meets_as_joined s h id other v w at its (main_lives v.core main) (reader_lives w.core reader) in
      subst (λ (both : Sitting P). KeepsList home source name_of plan record { words = s.words; homes = s.homes; views = set (set s.views id both) other spent_sitting }) (sym same)
      (joins_kept home source name_of plan id other v w planned main reader unpinned idle s h at apart (set_else s.views id other (joined_sitting v w) apart ∙ its))
    where
      main_lives : (u : View) → u.role ≡ roles.Main → u.role ≢ roles.Spent
      main_lives u main spent = absurd (cc)

      reader_lives : (u : View) → u.role ≡ roles.Reader → u.role ≢ roles.Spent
      reader_lives u reader spent = absurd (cc)

-- the seat isn't overdrawn, so the test is passed
pub met_by_test : {P : Type 0} (v w u : Sitting P) → u ≡ met_sitting v w → u.core.allowance < 2 ^ 32 → are_fronts v.core.seen w.core.seen ≡ true
met_by_test v w u is small =
    ⊎_elim (λ (yes : are_fronts v.core.seen w.core.seen ≡ true). yes)
    (λ (no : are_fronts v.core.seen w.core.seen ≡ false).
    let over : u ≡ knowing (overdrawn v.core) v = is ∙ cond-false (are_fronts v.core.seen w.core.seen) (joined_sitting v w) (knowing (overdrawn v.core) v) no in
    let much : u.core.allowance ≡ 2 ^ 32 = ap (λ (x : Sitting _). x.core.allowance) over in absurd (omega (arith, small, much)))
    (cases_Bool (are_fronts v.core.seen w.core.seen))

pub met_as_joined : {P : Type 0} (v w : Sitting P) → are_fronts v.core.seen w.core.seen ≡ true → met_sitting v w ≡ joined_sitting v w
met_as_joined v w passed = cond-true (are_fronts v.core.seen w.core.seen) (joined_sitting v w) (knowing (overdrawn v.core) v) passed
