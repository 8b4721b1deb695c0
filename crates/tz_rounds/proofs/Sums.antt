-- Sums over the numbers below one, each of which counts a part of a list.
use Rattle.std.proofs.Common.{◌≡◌, ℕ, zero, suc, ◌+◌, ◌≤◌, ◌<◌, ⊎_elim, Bool, true, false, cond, refl, sym, ap, ◌∙◌, arith}
use Rattle.std.proofs.lemmas.Bool.{cond-true, cond-false, cases_Bool, cases_order, false_from_ne_true}

-- f of each number below n, added up
abbrev pub sum_below : (ℕ → ℕ) → ℕ → ℕ
sum_below f zero = 0
sum_below f (suc n) = sum_below f n + f n

-- the same of what is the same for each
pub sum_same : (f g : ℕ → ℕ) (n : ℕ) → ((i : ℕ) → i < n → f i ≡ g i) → sum_below f n ≡ sum_below g n
sum_same f g zero same = refl
sum_same f g (suc n) same = omega (arith, sum_same f g n (λ i low. same i (omega (arith, low))), same n (omega arith))

-- of two together
pub sum_both : (f g : ℕ → ℕ) (n : ℕ) → sum_below (λ i. f i + g i) n ≡ sum_below f n + sum_below g n
sum_both f g zero = refl
sum_both f g (suc n) = omega (arith, sum_both f g n)

-- of nothing
pub sum_none : (n : ℕ) → sum_below (λ i. 0) n ≡ 0
sum_none zero = refl
sum_none (suc n) = omega (arith, sum_none n)

-- where one number alone is meant
pub sum_one : (test : ℕ → Bool) (one j n : ℕ) → j < n → test j ≡ true → ((i : ℕ) → test i ≡ true → i ≡ j) → sum_below (λ i. cond (test i) one 0) n ≡ one
sum_one test one j zero low pass alone = absurd (omega (arith, low))
sum_one test one j (suc n) low pass alone =
    ⊎_elim
    (λ (last : j ≡ n).
    let none : sum_below (λ i. cond (test i) one 0) n ≡ 0 =
    sum_same (λ i. cond (test i) one 0) (λ i. 0) n (λ i less. cond-false (test i) one 0 (false_from_ne_true (test i) (λ same. omega (arith, alone i same, less, last)))) ∙ sum_none n in
    let here : cond (test n) one 0 ≡ one = cond-true (test n) one 0 (ap test (sym last) ∙ pass) in
    omega (arith, none, here))
    (⊎_elim
    (λ (less : j < n).
    let rest : sum_below (λ i. cond (test i) one 0) n ≡ one = sum_one test one j n less pass alone in
    let here : cond (test n) one 0 ≡ 0 = cond-false (test n) one 0 (false_from_ne_true (test n) (λ same. omega (arith, alone n same, less))) in
    omega (arith, rest, here))
    (λ (more : n < j). absurd (omega (arith, more, low))))
    (cases_order j n)

-- no more than one where no two are meant
pub sum_few : (test : ℕ → Bool) (n : ℕ) → ((i j : ℕ) → test i ≡ true → test j ≡ true → i ≡ j) → sum_below (λ i. cond (test i) 1 0) n ≤ 1
sum_few test zero alone = omega arith
sum_few test (suc n) alone =
    ⊎_elim
    (λ (meant : test n ≡ true).
    let none : sum_below (λ i. cond (test i) 1 0) n ≡ 0 =
    sum_same (λ i. cond (test i) 1 0) (λ i. 0) n (λ i less. cond-false (test i) 1 0 (false_from_ne_true (test i) (λ same. omega (arith, alone i n same meant, less)))) ∙ sum_none n in
    let here : ◌≡◌ {A = ℕ} (cond (test n) 1 0) 1 = cond-true (test n) 1 0 meant in
    omega (arith, none, here))
    (λ (other : test n ≡ false).
    let here : ◌≡◌ {A = ℕ} (cond (test n) 1 0) 0 = cond-false (test n) 1 0 other in
    omega (arith, sum_few test n alone, here))
    (cases_Bool (test n))

-- of one more
pub sum_next : (f : ℕ → ℕ) (n : ℕ) → sum_below f (n + 1) ≡ sum_below f n + f n
sum_next f n =
    let next : n + 1 ≡ suc n = omega arith in
    ap (sum_below f) next
