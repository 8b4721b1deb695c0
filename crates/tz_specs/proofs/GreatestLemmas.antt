-- The greatest number that passes.
use Rattle.std.proofs.Common.{◌≡◌, ℕ, zero, suc, ◌<◌, ◌≤◌, Bool, true, false, refl, sym, ◌∙◌, arith}
use Rattle.std.proofs.lemmas.Bool.{cond-true, cond-false, false_from_ne_true}
use Rattle.std.proofs.lemmas.Bool.{cases_order}
use Rattle.std.proofs.Common.{⊎_elim}
use Rattle.tz_specs.specs.State.{greatest}
use Rattle.tz_specs.specs.Until.{least}
use Rattle.tz_specs.proofs.Tests.{by_test, not_both}

greatest-suc_true : (passes : ℕ → Bool) (n : ℕ) → passes (suc n) ≡ true → greatest passes (suc n) ≡ suc n
greatest-suc_true passes n t = cond-true (passes (suc n)) (suc n) (greatest passes n) t

greatest-suc_false : (passes : ℕ → Bool) (n : ℕ) → passes (suc n) ≡ false → greatest passes (suc n) ≡ greatest passes n
greatest-suc_false passes n f = cond-false (passes (suc n)) (suc n) (greatest passes n) f

-- it is not past the last
pub greatest_bound : (passes : ℕ → Bool) (n : ℕ) → greatest passes n ≤ n
greatest_bound passes zero = omega arith
greatest_bound passes (suc n) =
    by_test (passes (suc n)) (λ t. omega (arith, greatest-suc_true passes n t))
    (λ f. omega (arith, greatest-suc_false passes n f, greatest_bound passes n))

-- where it isn't 0, it passes
pub greatest_passes : (passes : ℕ → Bool) (n k : ℕ) → greatest passes n ≡ suc k → passes (suc k) ≡ true
greatest_passes passes zero k e = absurd (omega arith)
greatest_passes passes (suc n) k e =
    by_test (passes (suc n))
    (λ t. let same : n ≡ k = omega (arith, greatest-suc_true passes n t) in cc)
    (λ f. greatest_passes passes n k (sym (greatest-suc_false passes n f) ∙ e))

-- and nothing above it does
pub greatest_above : (passes : ℕ → Bool) (n k : ℕ) → greatest passes n < k → k ≤ n → passes k ≡ false
greatest_above passes zero k above within = absurd (omega arith)
greatest_above passes (suc n) k above within =
    by_test (passes (suc n)) (λ t. absurd (omega (arith, greatest-suc_true passes n t)))
    (λ f. ⊎_elim (λ (e : k ≡ suc n). cc)
    (⊎_elim (λ (lt : k < suc n). greatest_above passes n k (omega (arith, greatest-suc_false passes n f)) (omega arith))
    (λ (gt : suc n < k). absurd (omega arith)))
    (cases_order k (suc n)))

-- a number that passes with none above it that does is the greatest
pub greatest_is : (passes : ℕ → Bool) (n k : ℕ) → passes (suc k) ≡ true → suc k ≤ n → ((j : ℕ) → suc k < j → j ≤ n → passes j ≡ false) → greatest passes n ≡ suc k
greatest_is passes zero k t within above = absurd (omega arith)
greatest_is passes (suc n) k t within above =
    ⊎_elim
    (λ (e : k ≡ n). let t' : passes (suc n) ≡ true = cc in greatest-suc_true passes n t' ∙ cc)
    (⊎_elim (λ (lt : k < n). greatest-suc_false passes n (above (suc n) (omega arith) (omega arith)) ∙ greatest_is passes n k t (omega arith) (λ j higher low. above j higher (omega arith)))
    (λ (gt : n < k). absurd (omega arith)))
    (cases_order k n)

-- where none passes it is 0
pub greatest_none : (passes : ℕ → Bool) (n : ℕ) → ((j : ℕ) → 0 < j → j ≤ n → passes j ≡ false) → greatest passes n ≡ 0
greatest_none passes zero none = refl
greatest_none passes (suc n) none =
    greatest-suc_false passes n (none (suc n) (omega arith) (omega arith))
    ∙ greatest_none passes n (λ j positive low. none j positive (omega arith))

-- ---- the least number that passes
least-suc_true : (passes : ℕ → Bool) (last : ℕ) → passes (least passes last) ≡ true → least passes (suc last) ≡ least passes last
least-suc_true passes last t = cond-true (passes (least passes last)) (least passes last) (suc last) t

least-suc_false : (passes : ℕ → Bool) (last : ℕ) → passes (least passes last) ≡ false → least passes (suc last) ≡ suc last
least-suc_false passes last f = cond-false (passes (least passes last)) (least passes last) (suc last) f

-- it is not past the last
pub least_bound : (passes : ℕ → Bool) (last : ℕ) → least passes last ≤ last
least_bound passes zero = omega arith
least_bound passes (suc last) =
    by_test (passes (least passes last)) (λ t. omega (arith, least-suc_true passes last t, least_bound passes last))
    (λ f. omega (arith, least-suc_false passes last f))

-- a number that passes with none below it that does is the least
pub least_is : (passes : ℕ → Bool) (last k : ℕ) → passes k ≡ true → k ≤ last → ((j : ℕ) → j < k → passes j ≡ false) → least passes last ≡ k
least_is passes zero k t within below = omega arith
least_is passes (suc last) k t within below =
    ⊎_elim
    (λ (e : k ≡ suc last).
    least-suc_false passes last (below (least passes last) (omega (arith, least_bound passes last))) ∙ sym e)
    (⊎_elim
    (λ (lt : k < suc last).
    let same = least_is passes last k t (omega arith) below in
    let passes_too : passes (least passes last) ≡ true = rw same t in
    least-suc_true passes last passes_too ∙ same)
    (λ (gt : suc last < k). absurd (omega arith)))
    (cases_order k (suc last))

-- where the last passes, so does the least
pub least_passes : (passes : ℕ → Bool) (last : ℕ) → passes last ≡ true → passes (least passes last) ≡ true
least_passes passes zero t = t
least_passes passes (suc last) t =
    by_test (passes (least passes last)) (λ first. rw (least-suc_true passes last first) first)
    (λ none. rw (least-suc_false passes last none) t)

-- and none below it does
pub least_below : (passes : ℕ → Bool) (last j : ℕ) → j < least passes last → passes j ≡ false
least_below passes zero j below = absurd (omega arith)
least_below passes (suc last) j below =
    by_test (passes (least passes last)) (λ first. least_below passes last j (omega (arith, least-suc_true passes last first)))
    (λ none.
    let low : j < suc last = omega (arith, least-suc_false passes last none) in
    ⊎_elim
    (λ (same : j ≡ least passes last). rw same none)
    (⊎_elim (λ (lt : j < least passes last). least_below passes last j lt)
    (λ (gt : least passes last < j). false_from_ne_true (passes j) (λ t. above_least passes last j gt (omega arith) t none)))
    (cases_order j (least passes last)))
  where
    above_least : (passes : ℕ → Bool) (last j : ℕ) → least passes last < j → j ≤ last → passes j ≡ true → passes (least passes last) ≡ false → ⊥
    above_least passes zero j above within t none = omega arith
    above_least passes (suc last) j above within t none =
        by_test (passes (least passes last))
        (λ first.
        let again : passes (least passes (suc last)) ≡ true = rw (least-suc_true passes last first) first in
        not_both (passes (least passes (suc last))) again none)
        (λ nothing. omega (arith, least-suc_false passes last nothing))
