-- Which reader numbers a main has.
use Rattle.std.proofs.Common.{◌++◌, [], ◌∷◌, ◌≡◌, ◌≢◌, ◌↔◌, ℕ, zero, suc, ◌+◌, ◌<◌, ◌≤◌, List, length, set, get_or, sym, refl, ap, ◌∙◌, ⊎_elim, arith, Bool, true, false, not, cond, ◌==◌, Some, None, eq-eqb, ne_eqb, get_or-set_other, get_or-set_same}
use Rattle.std.specs.Prelude.{position, nat_lt}
use Rattle.std.specs.List.{range_with_len, filter, position_or_len}
use Rattle.std.proofs.lemmas.List.Quantifiers.{position-Some}
use Rattle.std.proofs.lemmas.Bool.{cases_eq, cases_lt, lt-ltb, cond-true, cond-false, not_from_true, not_from_false}
use Rattle.pin_core.specs.Core.{times, has_number, one_if}
use Rattle.pin_core.specs.Step.{main_at_first}
use Rattle.pin_table.specs.Numbers.{IsLeastNumber}
use Rattle.pin_core.proofs.Opening.{opens}
use Rattle.pin_core.proofs.Sums.{total-append}

-- one more number is marked
pub marks_more : (has : List Bool) (k : ℕ) → k < length has → ((n : ℕ) → (get_or has n false ≡ true) ↔ (n < k)) → (n : ℕ) → (get_or (set has k true) n false ≡ true) ↔ (n < k + 1)
marks_more has k inside below n = ⊎_elim
    (λ (is : n ≡ k). ((λ _. omega arith), (λ _. ap (λ i. get_or (set has k true) i false) is ∙ get_or-set_same has k true false inside)))
    (λ (no : n ≢ k). let same = get_or-set_other has k n true false no in ((λ on. let low = (below n).0 (sym same ∙ on) in omega arith), (λ low. same ∙ (below n).1 (omega arith))))
    (cases_eq n k)

-- a number past a range isn't in it
times_past : (number from count : ℕ) → from + count ≤ number → times number (range_with_len from count) ≡ 0
times_past number from zero high = refl
times_past number from (suc count) high = let zero = ap one_if (ne_eqb from number (λ is. omega arith)) in let rest = times_past number (from + 1) count (omega arith) in omega arith

-- the main of a new table has all numbers
pub has_all : (readers room n : ℕ) → (0 < has_number n (main_at_first readers room)) ↔ (n < readers)
has_all readers room n = ⊎_elim
    (λ (low : n < readers). let one : has_number n (main_at_first readers room) ≡ 1 = let all = (opens 1 readers room (omega arith)).owners.numbers n low in omega arith in ((λ _. low), (λ _. omega arith)))
    (λ (high : readers ≤ n). let none : has_number n (main_at_first readers room) ≡ 0 = times_past n 0 readers (omega arith) in ((λ some. absurd (omega arith)), (λ low. absurd (omega arith))))
    (cases_lt n readers)

-- ---- the least number that a main has ----

found_true : (has : List Bool) (n : ℕ) → get_or has n false ≡ true → position_or_len (λ b. b) has < length has
found_true [] n on = absurd (cc)
found_true (true ∷ has) n on = omega arith
found_true (false ∷ has) zero on = absurd (cc)
found_true (false ∷ has) (suc n) on = let more = found_true has n on in omega arith

-- where no place is found, none is marked
pub first_none : (has : List Bool) → position (λ b. b) has ≡ None → (n : ℕ) → get_or has n false ≡ true → ⊥
first_none has missing n on = some_is (position_or_len (λ b. b) has) (nat_lt (position_or_len (λ b. b) has) (length has)) (lt-ltb _ _ (found_true has n on)) missing
  where
    some_is : (m : ℕ) (b : Bool) → b ≡ true → cond b (Some m) None ≡ None → ⊥
    some_is m true t e = absurd (cc)
    some_is m false t e = absurd (cc)

-- a list that has no number is empty
pub no_numbers : (numbers : List ℕ) → ((n : ℕ) → 0 < times n numbers → ⊥) → numbers ≡ []
no_numbers [] none = refl
no_numbers (n ∷ ns) none = absurd (none n (let one : one_if (n == n) ≡ 1 = ap one_if (eq-eqb n n refl) in omega arith))

-- the first that is marked is the least number
pub first_least : (has : List Bool) (numbers : List ℕ) (place : ℕ) → ((n : ℕ) → (0 < times n numbers) ↔ (get_or has n false ≡ true)) → position (λ b. b) has ≡ Some place
    → (place < length has) × IsLeastNumber numbers place
first_least has numbers place marked found = let t = position-Some (λ b. b) has place false found in (
  t.0,
  record {
    among = (marked place).1 t.1;
    least = λ other some. ⊎_elim
        (λ (low : other < place). absurd (differ (get_or has other false) ((marked other).0 some) (t.2 other low))) (λ (high : place ≤ other). high) (cases_lt other place);
  },
)
  where
    differ : (b : Bool) → b ≡ true → b ≡ false → ⊥
    differ b on off = absurd (cc)

-- ---- a number less, or one more ----

times_here : (number : ℕ) (numbers : List ℕ) → times number (filter (λ other. not (other == number)) numbers) ≡ 0
times_here number [] = refl
times_here number (n ∷ ns) = ⊎_elim
    (λ (is : n ≡ number). ap (times number) (cond-false (not (n == number)) (n ∷ filter (λ other. not (other == number)) ns) (filter (λ other. not (other == number)) ns) (not_from_true (n == number) (eq-eqb n number is))) ∙ times_here number ns)
    (λ (no : n ≢ number). ap (times number) (cond-true (not (n == number)) (n ∷ filter (λ other. not (other == number)) ns) (filter (λ other. not (other == number)) ns) (not_from_false (n == number) (ne_eqb n number no)))
    ∙ (let zero = ap one_if (ne_eqb n number no) in let rest = times_here number ns in omega arith)) (cases_eq n number)

times_else : (number r : ℕ) (numbers : List ℕ) → r ≢ number → times r (filter (λ other. not (other == number)) numbers) ≡ times r numbers
times_else number r [] else = refl
times_else number r (n ∷ ns) else = ⊎_elim
    (λ (is : n ≡ number). ap (times r) (cond-false (not (n == number)) (n ∷ filter (λ other. not (other == number)) ns) (filter (λ other. not (other == number)) ns) (not_from_true (n == number) (eq-eqb n number is)))
    ∙ (let zero = ap one_if (ne_eqb n r (λ e. else (sym e ∙ is))) in let rest = times_else number r ns else in omega arith))
    (λ (no : n ≢ number). ap (times r) (cond-true (not (n == number)) (n ∷ filter (λ other. not (other == number)) ns) (filter (λ other. not (other == number)) ns) (not_from_false (n == number) (ne_eqb n number no)))
    ∙ (let rest = times_else number r ns else in omega arith)) (cases_eq n number)

-- the marks after a number went out
pub marks_less : (has : List Bool) (numbers : List ℕ) (place : ℕ) → place < length has → ((n : ℕ) → (0 < times n numbers) ↔ (get_or has n false ≡ true))
    → (n : ℕ) → (0 < times n (filter (λ other. not (other == place)) numbers)) ↔ (get_or (set has place false) n false ≡ true)
marks_less has numbers place inside marked n = ⊎_elim
    (λ (is : n ≡ place). let none = ap (λ k. times k (filter (λ other. not (other == place)) numbers)) is ∙ times_here place numbers in let off = ap (λ k. get_or (set has place false) k false) is ∙ get_or-set_same has place false false inside in
    ((λ some. absurd (omega arith)), (λ on. absurd (differ (get_or (set has place false) n false) on off))))
    (λ (no : n ≢ place). let same = times_else place n numbers no in let kept = get_or-set_other has place n false false no in
    ((λ some. kept ∙ (marked n).0 (omega arith)), (λ on. let mine = (marked n).1 (sym kept ∙ on) in omega arith)))
    (cases_eq n place)
  where
    differ : (b : Bool) → b ≡ true → b ≡ false → ⊥
    differ b on off = absurd (cc)

-- the marks after a number came back
pub marks_back : (has : List Bool) (numbers others : List ℕ) (number : ℕ) → others ≡ number ∷ [] → number < length has → ((n : ℕ) → (0 < times n numbers) ↔ (get_or has n false ≡ true))
    → (n : ℕ) → (0 < times n (numbers ++ others)) ↔ (get_or (set has number true) n false ≡ true)
marks_back has numbers others number one inside marked n =
    let sum : times n (numbers ++ others) ≡ times n numbers + one_if (number == n) = total-append (λ other. one_if (other == n)) numbers others ∙ (let last = ap (times n) one in omega arith) in
    ⊎_elim
    (λ (is : n ≡ number). let mine = ap one_if (eq-eqb number n (sym is)) in ((λ _. ap (λ k. get_or (set has number true) k false) is ∙ get_or-set_same has number true false inside), (λ _. omega arith)))
    (λ (no : n ≢ number). let zero = ap one_if (ne_eqb number n (λ e. no (sym e))) in let kept = get_or-set_other has number n true false no in
    ((λ some. kept ∙ (marked n).0 (omega arith)), (λ on. let old = (marked n).1 (sym kept ∙ on) in omega arith)))
    (cases_eq n number)
