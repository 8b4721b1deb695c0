-- Editions in a list: those that stand in the slots that keep them, with numbers that fall.
use Rattle.std.proofs.Common.{◌≡◌, ℕ, ◌<◌, ◌≤◌, Bool, true, false, ◌||◌, cond, eqb, ltb, List, [], ◌∷◌, length, filter, get_or, set, count_by, refl, ◌∙◌, ⊎_elim, arith, length-set, get_or-set_other}
use Rattle.std.proofs.lemmas.Bool.{or_parts, or_cases, cond_both, cond-true, false≢true, eqb-false, eqb-true, ne_eqb, ltb-true, lt-ltb}
use Rattle.std.proofs.lemmas.List.Sums.{sum_by-set, count_by-le-length}
use Rattle.pin_book.specs.Replay.{Edition, is_listed, is_slot_listed, greatest_number}

-- each of these editions stands in a slot that keeps its number, and the numbers fall from below the bound
abbrev pub Stands : ℕ → List ℕ → List Edition → Type 0
Stands bound kept [] = Unit {0}
Stands bound kept (edition ∷ older) =
    (0 < edition.n) × (edition.n < bound) × (edition.slot < length kept) × (get_or kept edition.slot 0 ≡ edition.n)
    × Stands edition.n kept older

pub stands_wider : (bound other : ℕ) (kept : List ℕ) (es : List Edition) → bound ≤ other → Stands bound kept es → Stands other kept es
stands_wider bound other kept [] wider stands = tt
stands_wider bound other kept (e ∷ es) wider stands =
    (stands.0, omega (arith, stands.1), stands.2, stands.3, stands.4)

-- a write to a slot that isn't listed leaves those that are listed
pub stands_set : (bound slot n : ℕ) (kept : List ℕ) (es : List Edition) → is_slot_listed slot es ≡ false → Stands bound kept es → Stands bound (set kept slot n) es
stands_set bound slot n kept [] unlisted stands = tt
stands_set bound slot n kept (e ∷ es) unlisted stands =
    let parts = or_parts (eqb e.slot slot) (is_slot_listed slot es) unlisted in
    let inside : e.slot < length (set kept slot n) = rw (length-set kept slot n) stands.2 in
    (stands.0, stands.1, inside, get_or-set_other kept slot e.slot n 0 (eqb-false e.slot slot parts.0) ∙ stands.3, stands_set e.n slot n kept es parts.1 stands.4)

-- what a filter leaves stands as before
pub stands_filter : (p : Edition → Bool) (bound : ℕ) (kept : List ℕ) (es : List Edition) → Stands bound kept es → Stands bound kept (filter p es)
stands_filter p bound kept [] stands = tt
stands_filter p bound kept (e ∷ es) stands =
    let rest = stands_filter p e.n kept es stands.4 in
    let low : e.n ≤ bound = omega (arith, stands.1) in
    cond_both (p e) (e ∷ filter p es) (filter p es) (λ xs. Stands bound kept xs)
    (λ t. (stands.0, stands.1, stands.2, stands.3, rest)) (λ f. stands_wider e.n bound kept (filter p es) low rest)

-- a slot that keeps a number from the bound on isn't listed
pub high_slot : (bound slot : ℕ) (kept : List ℕ) (es : List Edition) → bound ≤ get_or kept slot 0 → Stands bound kept es → is_slot_listed slot es ≡ false
high_slot bound slot kept [] high stands = refl
high_slot bound slot kept (e ∷ es) high stands =
    let apart : eqb e.slot slot ≡ false = ne_eqb e.slot slot (λ same. let kept_here : get_or kept slot 0 ≡ e.n = rw (← same) stands.3 in omega (arith, kept_here, stands.1, high)) in
    let rest : is_slot_listed slot es ≡ false = high_slot e.n slot kept es (omega (arith, stands.1, high)) stands.4 in
    or_false (eqb e.slot slot) (is_slot_listed slot es) apart rest
  where
    or_false : (a b : Bool) → a ≡ false → b ≡ false → (a || b) ≡ false
    or_false a b h k = grind arith

-- no more are listed than slots keep something
pub listed_le_kept : (bound : ℕ) (kept : List ℕ) (es : List Edition) → Stands bound kept es → length es ≤ count_by (λ n. ltb 0 n) kept
listed_le_kept bound kept [] stands = omega arith
listed_le_kept bound kept (e ∷ es) stands =
    let unlisted : is_slot_listed e.slot es ≡ false = high_slot e.n e.slot kept es (omega (arith, stands.3)) stands.4 in
    let others : length es ≤ count_by (λ n. ltb 0 n) (set kept e.slot 0) =
    listed_le_kept e.n (set kept e.slot 0) es (stands_set e.n e.slot 0 kept es unlisted stands.4) in
    let weight : ℕ → ℕ = λ n. cond (ltb 0 n) 1 0 in
    let moved = sum_by-set weight kept e.slot 0 0 stands.2 in
    let here : weight (get_or kept e.slot 0) ≡ 1 = cond-true (ltb 0 (get_or kept e.slot 0)) 1 0 (lt-ltb 0 (get_or kept e.slot 0) (omega (arith, stands.0, stands.3))) in
    omega (arith, others, moved, here)

pub few_listed : (bound : ℕ) (kept : List ℕ) (es : List Edition) → Stands bound kept es → length es ≤ length kept
few_listed bound kept es stands =
    omega (arith, listed_le_kept bound kept es stands, count_by-le-length (λ n. ltb 0 n) kept)

-- a listed number lies below the bound
pub listed_below : (bound number : ℕ) (kept : List ℕ) (es : List Edition) → Stands bound kept es → is_listed number es ≡ true → (0 < number) × (number < bound)
listed_below bound number kept [] stands listed = absurd (false≢true listed)
listed_below bound number kept (e ∷ es) stands listed =
    ⊎_elim (λ (h : eqb e.n number ≡ true). let same = eqb-true e.n number h in (omega (arith, stands.0, same), omega (arith, stands.1, same)))
    (λ (h : is_listed number es ≡ true). let low = listed_below e.n number kept es stands.4 h in (low.0, omega (arith, low.1, stands.1)))
    (or_cases (eqb e.n number) (is_listed number es) listed)

-- the greatest_number of those below a number is below it
pub greatest_less : (number : ℕ) (numbers : List ℕ) → 0 < number → greatest_number (filter (λ other. ltb other number) numbers) < number
greatest_less number [] positive = positive
greatest_less number (n ∷ ns) positive =
    let rest = greatest_less number ns positive in
    cond_both (ltb n number) (n ∷ filter (λ other. ltb other number) ns) (filter (λ other. ltb other number) ns) (λ xs. greatest_number xs < number)
    (λ t. omega (arith, ltb-true n number t, rest)) (λ f. rest)
